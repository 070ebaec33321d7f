-- Two consequences of the rule of the word, for all seats together. This project's profile.
use Rattle.std.specs.Prelude.{◌≡◌, ℕ, ◌+◌, ◌≤◌, List}
use mathlib.Core.Option.{some}
use lib.ListN.{get_elem?}
use Rattle.sysv_eventcount.specs.declared.view.View.{View}
use Rattle.sysv_lists.specs.Numbers.{times}
use Rattle.sysv_eventcount.specs.Rule.{IsKept}

-- No number is in the lists of two different seats, and none is in one of the two lists twice.
abbrev pub NoNumberInTwoSeats : Type 0
NoNumberInTwoSeats =
    (first n : ℕ) (views : List View) → IsKept first n views
    → (i j : ℕ) (v w : View) → ¬ (i ≡ j) → get_elem? views i ≡ some v → get_elem? views j ≡ some w
    → (x : ℕ) → times x v.own + times x w.own ≤ 1

-- The word is at least every value that any seat has seen.
abbrev pub NoValueIsInvented : Type 0
NoValueIsInvented =
    (first n : ℕ) (views : List View) → IsKept first n views → (i : ℕ) (v : View) → get_elem? views i ≡ some v →
    v.seen ≤ n
