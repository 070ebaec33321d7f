-- The rule of the one word of an eventcount or a sequencer, and of the views of its seats. Only a
-- seat that found the word below 2^62 may add past it: such a seat is cleared for one addition. The
-- allowances bound the number of seats that can be cleared at once, so the word never exceeds 2^62
-- + 2^61. This project's profile.
use Rattle.std.specs.Prelude.{◌≡◌, ℕ, ◌+◌, ◌^◌, ◌<◌, ◌≤◌, cond, false, List, [], length, slice_index, sum_by}
use mathlib.Core.Option.{some}
use lib.ListN.{get_elem?}
use Rattle.atomic_table.specs.Table.{State}
use Rattle.sysv_eventcount.specs.declared.view.View.{View}
use Rattle.sysv_lists.specs.Numbers.{times, once_between}

-- The number of additions that a view is cleared for.
abbrev pub cleared_count : View → ℕ
cleared_count v = cond v.cleared 1 0

-- A view fits the word n: if it has an allowance, it has the first value; it has seen at most n; if
-- it is cleared, it has an allowance; and if it has no allowance, it has no additions.
pub record Fits (first n : ℕ) (v : View) : Type 0 where
  pub start : 0 < v.allowance → v.first ≡ first
  pub seen : v.seen ≤ n
  pub cleared : cleared_count v ≤ v.allowance
  pub spent : v.allowance ≡ 0 → v.own ≡ []

-- The word n and the views keep the rule. The word is the first value plus the number of additions.
-- Each number from the first value to below the word was found by exactly one addition, and no
-- other number by any. The allowances add up to at most the whole, the word has room for every
-- addition that is cleared, and each view fits the word.
pub record IsKept (first n : ℕ) (views : List View) : Type 0 where
  pub counted : n ≡ first + sum_by (λ v. length v.own) views
  pub once : (x : ℕ) → sum_by (λ v. times x v.own) views ≡ once_between first n x
  pub allowances : sum_by (λ v. v.allowance) views ≤ 2 ^ 61
  pub room : n + sum_by cleared_count views ≤ 2 ^ 62 + 2 ^ 61
  pub each : (id : ℕ) (v : View) → get_elem? views id ≡ some v → Fits first n v

-- There is one word, and the word and the views keep the rule.
abbrev pub OneWord : ℕ → State (Unit {0}) View → Type 0
OneWord first s = (length s.words ≡ 1) × IsKept first (slice_index s.words 0) s.views

-- The view of the first seat.
abbrev pub start : ℕ → View
start first = record { first = first; seen = first; own = []; allowance = 2 ^ 61; cleared = false }
