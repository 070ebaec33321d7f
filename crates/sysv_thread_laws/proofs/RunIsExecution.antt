-- Each transition except a preset is a moment, or leaves the world as it was.
use Rattle.std.proofs.Common.{◌≡◌, ◌⊎◌, inl, inr, ℕ, suc, List, [], ◌∷◌, ◌++◌, Option, None, Some, refl, sym, ap, subst}
use Rattle.std.proofs.Common.{◌∙◌, arith}
use Rattle.sysv_model.specs.declared.cred.Cred.{Cred}
use Rattle.sysv_model.specs.Pool.{released}
use Rattle.sysv_model.specs.Turn.{pool_history}
use Rattle.sysv_steps.specs.Call.{SystemCall, kind_of}
use Rattle.sysv_steps.specs.State.{State, Goes, Waits, Over}
use Rattle.sysv_steps.specs.Resume.{awaited}
use Rattle.sysv_core.specs.World.{World, Invocation, Doing, Response, Transition, Preset, Start, Step, actor_at}
use Rattle.sysv_core.specs.World.{StaysWith}
use Rattle.sysv_core.specs.World.{value_of, Continues, StartsAt, StepsAt, Makes}
use Rattle.sysv_thread_laws.specs.Execution.{Moment, Starts, TakesTurn, Wakes, Brings, LeadsOnThreads}
use Rattle.sysv_thread_laws.specs.RunIsExecution.{IsOfCall, EachRunIsAnExecution}

abbrev IsMoment : World → List Response → World → Type 0
IsMoment w responses after = StaysWith w responses after ⊎ ((moment : Moment) × Brings w moment responses after)

continues_so : (w after : World) (responses : List Response) (actor now : ℕ) (call : Invocation)
    (state : State (kind_of call.asked)) →
    actor_at w.actors actor ≡ Some (Some record { call = call; state = state }) →
    Continues w actor now call state responses after → IsMoment w responses after
continues_so w after responses actor now call (Goes phase) there t = inr (TakesTurn actor now, (call, phase, there, t))
continues_so w after responses actor now call (Waits wait) there (inl t) =
    inr (Wakes actor (value_of w.turns (awaited wait)), (call, wait, there, t.0, t.1, t.2))
continues_so w after responses actor now call (Waits wait) there (inr t) = inl t.1
continues_so w after responses actor now call (Over ending) there t = inl t

steps_so : (w after : World) (responses : List Response) (actor now : ℕ) (o : Option (Option Doing)) →
    actor_at w.actors actor ≡ o → StepsAt w actor now o responses after → IsMoment w responses after
steps_so w after responses actor now None there s = inl s
steps_so w after responses actor now (Some None) there s = inl s
steps_so w after responses actor now (Some (Some d)) there s =
    continues_so w after responses actor now d.call d.state there s

starts_so : (w after : World) (responses : List Response) (actor : ℕ) (cred : Cred) (asked : SystemCall)
    (o : Option (Option Doing)) → actor_at w.actors actor ≡ o →
    StartsAt w actor cred asked o responses after → IsMoment w responses after
starts_so w after responses actor cred asked None there s = inl s
starts_so w after responses actor cred asked (Some (Some d)) there s = inl s
starts_so w after responses actor cred asked (Some None) there s =
    inr (Starts actor cred asked (released (pool_history w.turns)), (there, s))

makes_so : (w after : World) (x : Transition) (responses : List Response) → IsOfCall x → Makes w x responses after →
    IsMoment w responses after
makes_so w after Preset responses of_call m = absurd of_call
makes_so w after (Start actor cred asked) responses of_call (inl worn) = inl worn.1
makes_so w after (Start actor cred asked) responses of_call (inr young) =
    starts_so w after responses actor cred asked (actor_at w.actors actor) refl young.1
makes_so w after (Step actor now) responses of_call (inl worn) = inl worn.1
makes_so w after (Step actor now) responses of_call (inr young) =
    steps_so w after responses actor now (actor_at w.actors actor) refl young.1

pub each_run_is_an_execution : EachRunIsAnExecution
each_run_is_an_execution w after [] responses all l = ([], l)
each_run_is_an_execution w after (x ∷ xs) responses all (mid, one, rest, makes, leads, whole) =
    let r = each_run_is_an_execution mid after xs rest (λ k d low. all (suc k) d (omega (arith, low))) leads in
    elim (makes_so w mid x one (all 0 x (omega arith)) makes) [
      | inl stays ↦
          let same : responses ≡ rest = whole ∙ ap (λ gs. gs ++ rest) stays.0 in (
            r.0,
            subst (λ gs. LeadsOnThreads w r.0 gs after) (sym same)
                (subst (λ (v : World). LeadsOnThreads v r.0 rest after) stays.1 r.1),
          )
      | inr moment ↦ (moment.0 ∷ r.0, (mid, one, rest, moment.1, r.1, whole))
    ]
