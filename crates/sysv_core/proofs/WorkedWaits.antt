-- What the laws of waits and of removals admit and refuse.
use Rattle.std.proofs.Common.{◌≡◌, inl, inr, true, false, List, [], ◌∷◌, ◌++◌, refl, arith, pos}
use Rattle.std.specs.List.{All}
use Rattle.std.proofs.lemmas.List.Elements.{All-push, All-contains, All-nil}
use Rattle.sysv_model.specs.declared.errno.Errno.TheVariants.{EIDRM, EINVAL}
use Rattle.sysv_model.specs.Registry.{Forget, Changed}
use Rattle.sysv_model.specs.Turn.{Op, AtRegistry, Turn}
use Rattle.sysv_steps.specs.State.{Ending, Refused}
use Rattle.sysv_steps.specs.Answers.{is_at_slot, found_gone}
use Rattle.sysv_core.specs.World.{with_preset_turns}
use Rattle.sysv_core.specs.Forgotten.{TakesItsRow, AllTakeTheirRows}
use Rattle.sysv_core.specs.WorkedWaits.{by_preset, after_removal, after_forget, finds_none, finds_it_gone, WorkedWaits}
use Rattle.sysv_core.proofs.Histories.{begun_turns, installed_turns}
use Rattle.sysv_core.proofs.WorkedRun.{none_is_named}

all_gone : All (λ (op : Op). is_at_slot op ≡ true → found_gone op ≡ true) (finds_it_gone ∷ [])
all_gone = All-push (λ (op : Op). is_at_slot op ≡ true → found_gone op ≡ true) [] finds_it_gone (All-nil _)
    (λ at. refl)

one_ending : (e : Ending) → All (λ (x : Ending). x ≡ e) (e ∷ [])
one_ending e = All-push (λ (x : Ending). x ≡ e) [] e (All-nil _) refl

-- Turns that each take their row, and then one more that does.
takes_one_more : (turns : List Turn) (t : Turn) → AllTakeTheirRows turns → TakesItsRow t.op →
    AllTakeTheirRows (turns ++ t ∷ [])
takes_one_more turns t all takes = All-push (λ (x : Turn). TakesItsRow x.op) turns t all takes

takes_rows : AllTakeTheirRows (after_forget true)
takes_rows =
    takes_one_more after_removal _
    (takes_one_more (with_preset_turns []) _
    (takes_one_more (installed_turns []) _
    (takes_one_more (begun_turns []) _ (takes_one_more [] _ (λ k d low. absurd (omega (arith, low))) tt) tt) tt)
    tt) refl

pub worked_waits : WorkedWaits
worked_waits = record {
  waits = record { lives = refl; may_read = inr (inl (inl refl, λ none. cc)); unnamed = none_is_named };
  sleeps_on = λ n. n.unnamed 0 ((omega arith, tt), λ earlier below q. omega arith);
  sleeps_for_ever = λ n. n.lives;
  told =
      record { gone = all_gone; removed = λ there come. one_ending (Refused EIDRM); absent = λ none come. absurd cc };
  told_never = λ t.
      let bad = All-contains (λ (x : Ending). x ≡ Refused EIDRM) (Refused EINVAL ∷ []) (Refused EINVAL)
      (t.removed refl refl) (0, omega arith, refl) in
      cc;
  told_to_a_later_one =
      record { gone = all_gone; removed = λ there come. absurd cc; absent = λ none come. one_ending (Refused EINVAL) };
  found_again = λ t.
      let bad = All-contains (λ (op : Op). is_at_slot op ≡ true → found_gone op ≡ true) (finds_none ∷ [])
      finds_none t.gone (0, omega arith, refl) refl in
      cc;
  forgets = takes_rows;
  forgets_nothing = λ all.
      let bad = All-contains (λ (t : Turn). TakesItsRow t.op) (after_forget false)
      (by_preset (AtRegistry (Forget (pos 0)) (Changed false))) all (4, omega arith, refl) in
      cc;
  comes_back = λ r. let bad = r.once 0 (pos 0) [] (_ ∷ []) [] _ _ refl refl in cc;
}
