-- Proves the law from the rule.
use Rattle.std.proofs.Common.{◌≡◌, ⊎_elim, ℕ, ◌≤◌, List, length, get_or, sym, refl, ap, ◌∙◌, arith, lt_of_not-le}
use Rattle.std.specs.Prelude.{sum_by}
use Rattle.std.specs.Int.{bit_at}
use mathlib.Core.Logic.{dite}
use native.Mathlib.Decide.{dec_le, ℕ_discrete}
use Rattle.std.proofs.lemmas.List.{get_or_past}
use Rattle.std.proofs.lemmas.Nat.Bits.{bit_at-zero}
use Rattle.sysv_lists.proofs.Places.{one_there}
use Rattle.sysv_lists.proofs.Sums.{some_part}
use Rattle.sysv_bells.specs.declared.view.View.{View}
use Rattle.sysv_bells.specs.declared.view.Stage.{Stage}
use Rattle.sysv_bells.specs.declared.view.Stage.TheVariants.{Idle, Told, Rung, Awake, Announced, Asleep}
use Rattle.sysv_bells.specs.Rule.{told_count, rung_count, IsKept}
use Rattle.sysv_bells.specs.Laws.{AllIdle, NoWakeUpIsLost}

abbrev is_awake : Stage → ℕ
is_awake Idle = 0
is_awake Told = 0
is_awake Rung = 0
is_awake Awake = 1
is_awake Announced = 0
is_awake Asleep = 0

other_stage : Asleep ≡ Awake → ⊥
other_stage e = let r = ap is_awake e in omega arith

-- If the sleeper sleeps and the others are idle, no seat counts.
none_counts : (f : Stage → ℕ) (about : ℕ) (words : List ℕ) (views : List View) (sleeper : View) →
    IsKept about words views sleeper → sleeper.stage ≡ Asleep → AllIdle views → f Asleep ≡ 0
    → ((v : View) → v.stage ≡ Idle → f v.stage ≡ 0)
    → sum_by (λ (v : View). f v.stage) views ≡ 0
none_counts f about words views sleeper kept asleep idle at_asleep at_idle =
    let total : ℕ = sum_by (λ (v : View). f v.stage) views in
    dite (dec_le 1 total)
    (λ some_one.
    let one = some_part (λ (v : View). f v.stage) views some_one in
    let least = one.3 in
    dite (ℕ_discrete one.0 0)
    (λ e.
    let is = one_there views 0 one.0 sleeper one.1 e kept.first one.2 in
    let none : f one.1.stage ≡ 0 = ap (λ (v : View). f v.stage) is ∙ ap f asleep ∙ at_asleep in
    absurd (omega arith))
    (λ ne. let none = at_idle one.1 (idle one.0 one.1 one.2 ne) in absurd (omega arith)))
    (λ no. let less = lt_of_not-le no in omega arith)

pub nothing_waits : NoWakeUpIsLost
nothing_waits about words views sleeper kept asleep untaken idle =
    let away = λ (e : sleeper.stage ≡ Awake). other_stage (sym asleep ∙ e) in
    let bell = kept.one_bell away in
    let low = kept.asleep_bit in
    let ring = none_counts told_count about words views sleeper kept asleep idle refl (λ v e. ap told_count e) in
    let look = none_counts rung_count about words views sleeper kept asleep idle refl (λ v e. ap rung_count e) in
    let answered = kept.answered asleep in
    let read = kept.all_read away in
    let zero_word : (i : ℕ) → 2 ≤ i → get_or words i 0 ≡ 0 = λ i told. dite (dec_le (length words) i)
    (λ past. get_or_past words i 0 past)
    (λ within.
    let less = lt_of_not-le within in
    dite (ℕ_discrete (get_or words i 0) 0) (λ e. e)
    (λ ne. let a = kept.announced i told (omega arith) (omega arith) in absurd (omega arith))) in
    record {
      asleep = omega arith;
      not_rung = omega arith;
      untold = zero_word;
      taken = λ id v at place t told_at bit has.
          let is = kept.delivered id v at place t told_at in
          ⊎_elim
          (λ there.
          let none : bit_at (get_or words t.word 0) bit ≡ 0 =
          ap (λ n. bit_at n bit) (zero_word t.word is.is_told) ∙ bit_at-zero bit in
          absurd (omega arith))
          (λ was. was)
          (is.bits bit has);
    }
