-- Proves the law from the rule.
use Rattle.std.proofs.Common.{◌≡◌, ◌≢◌, ℕ, ◌≤◌, List, sym, ap, ◌∙◌, refl, arith, lt_of_not-le}
use Rattle.std.specs.Prelude.{sum_by}
use mathlib.Core.Logic.{dite}
use mathlib.Core.Option.{some}
use native.Mathlib.Decide.{dec_le, ℕ_discrete}
use lib.ListN.{get_elem?}
use Rattle.sysv_lists.proofs.Sums.{some_part}
use Rattle.sysv_doorbells.specs.declared.view.View.{View}
use Rattle.sysv_doorbells.specs.declared.view.Stage.{Stage}
use Rattle.sysv_doorbells.specs.declared.view.Stage.TheVariants.{Away, Come, Entered, Read, Ready, Left}
use Rattle.sysv_doorbells.specs.declared.view.Stage.TheVariants.{PassedAll, Passed, Near, Ringing, Rung}
use Rattle.sysv_doorbells.specs.Rule.{is_inside, is_at, is_near, is_ringing, here, count_at}
use Rattle.sysv_doorbells.specs.Laws.{NoWakeUpIsLost}
use Rattle.sysv_doorbells.proofs.Counts.{is_here, is_else}
use Rattle.sysv_doorbells.proofs.SleeperKeepsRule.{counted_at, counted_inside}

only_near : (s : Stage) → 1 ≤ is_near s → s ≡ Near
only_near Away one = absurd (omega arith)
only_near Come one = absurd (omega arith)
only_near Entered one = absurd (omega arith)
only_near Read one = absurd (omega arith)
only_near Ready one = absurd (omega arith)
only_near Left one = absurd (omega arith)
only_near PassedAll one = absurd (omega arith)
only_near Passed one = absurd (omega arith)
only_near Near one = refl
only_near Ringing one = absurd (omega arith)
only_near Rung one = absurd (omega arith)

only_ringing : (s : Stage) → 1 ≤ is_ringing s → s ≡ Ringing
only_ringing Away one = absurd (omega arith)
only_ringing Come one = absurd (omega arith)
only_ringing Entered one = absurd (omega arith)
only_ringing Read one = absurd (omega arith)
only_ringing Ready one = absurd (omega arith)
only_ringing Left one = absurd (omega arith)
only_ringing PassedAll one = absurd (omega arith)
only_ringing Passed one = absurd (omega arith)
only_ringing Near one = absurd (omega arith)
only_ringing Ringing one = refl
only_ringing Rung one = absurd (omega arith)

-- If no seat at the doorbell counts, the count is 0.
none_counts : (f : Stage → ℕ) (at : ℕ) (views : List View) →
    ((id : ℕ) (v : View) → get_elem? views id ≡ some v → v.at ≡ at → 1 ≤ f v.stage → ⊥) → count_at f at views ≡ 0
none_counts f at views nobody =
    dite (dec_le 1 (count_at f at views))
    (λ more.
    let one = some_part (here f at) views more in
    let least : 1 ≤ here f at one.1 = one.3 in
    dite (ℕ_discrete one.1.at at)
    (λ e. let is = is_here f at one.1 e in absurd (nobody one.0 one.1 one.2 e (omega arith)))
    (λ ne. let is = is_else f at one.1 ne in absurd (omega arith)))
    (λ less. let l = lt_of_not-le less in omega arith)

pub nothing_rang : NoWakeUpIsLost
nothing_rang many words views id sleeper kept there stage bell same nobody =
    let ready = kept.ready id sleeper there stage in
    let none_near : count_at is_near sleeper.at views ≡ 0 =
    none_counts is_near sleeper.at views (λ k v at e one. (nobody k v at e).0 (only_near v.stage one)) in
    let none_ringing : count_at is_ringing sleeper.at views ≡ 0 =
    none_counts is_ringing sleeper.at views (λ k v at e one. (nobody k v at e).1 (only_ringing v.stage one)) in
    let rung = kept.rung sleeper.at bell in
    let heard = ready.heard (omega arith) none_ringing in
    let since = ready.since in
    let inside = counted_inside many words views kept id sleeper there (ap is_inside stage) in
    let in_word = kept.sleepers in
    let at = counted_at many words views kept id sleeper there (ap is_at stage) in
    let at_word = kept.entered sleeper.at bell in
    record {
      unrung = omega arith;
      sleepers = omega arith;
      entered = omega arith;
      uncalled = λ e. let c = ready.called e in omega arith;
    }
