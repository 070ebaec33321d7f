-- What a transition makes of a world, in five cases: nothing, the start of a call, a turn, the end
-- of a wait, or the three turns of a preset.
use Rattle.std.proofs.Common.{◌≡◌, ◌≤◌, inl, inr, ℕ, zero, suc, List, [], None, Some, refl, Option, slice_get}
use Rattle.sysv_model.specs.declared.cred.Cred.{Cred}
use Rattle.sysv_model.specs.Turn.{registry_history}
use Rattle.sysv_keys.specs.Rows.{IsUnused}
use Rattle.sysv_steps.specs.Call.{SystemCall, kind_of}
use Rattle.sysv_steps.specs.State.{Phase, Wait, State, Goes, Waits, Over}
use Rattle.sysv_steps.specs.Resume.{awaited, goal_of, resume}
use Rattle.sysv_core.specs.World.{World, Invocation, Doing, Response, Transition, Preset, Start, Step, StaysWith}
use Rattle.sysv_core.specs.World.{starting}
use Rattle.sysv_core.specs.World.{Begins, Turns, value_of, in_state, Continues, StartsAt, StepsAt, with_preset, Makes}

pub data Move (w : World) (responses : List Response) (after : World) : Type 0 where
  stood : StaysWith w responses after → Move w responses after
  began : (place : ℕ) (cred : Cred) (asked : SystemCall) → slice_get w.actors place ≡ Some None →
      Begins w (suc place) (starting w (suc place) cred asked) responses after → Move w responses after
  turned : (place now : ℕ) (call : Invocation) (phase : Phase (kind_of call.asked)) →
      slice_get w.actors place ≡ Some (Some record { call = call; state = Goes phase }) →
      Turns w (suc place) call phase now responses after → Move w responses after
  awoke : (place : ℕ) (call : Invocation) (wait : Wait (kind_of call.asked)) →
      slice_get w.actors place ≡ Some (Some record { call = call; state = Waits wait }) →
      goal_of wait ≤ value_of w.turns (awaited wait) → responses ≡ [] →
      after ≡ in_state w (suc place) call (Goes (resume wait (value_of w.turns (awaited wait)))) →
      Move w responses after
  preset_made : IsUnused w.generation (registry_history w.turns) 0 → responses ≡ [] → after ≡ with_preset w →
      Move w responses after

starts_move : (w after : World) (responses : List Response) (place : ℕ) (cred : Cred) (asked : SystemCall)
    (o : Option (Option Doing)) → slice_get w.actors place ≡ o → StartsAt w (suc place) cred asked o responses after →
    Move w responses after
starts_move w after responses place cred asked None there t = stood t
starts_move w after responses place cred asked (Some None) there t = began place cred asked there t
starts_move w after responses place cred asked (Some (Some d)) there t = stood t

continues_move : (w after : World) (responses : List Response) (place now : ℕ) (call : Invocation)
    (state : State (kind_of call.asked)) →
    slice_get w.actors place ≡ Some (Some record { call = call; state = state }) →
    Continues w (suc place) now call state responses after → Move w responses after
continues_move w after responses place now call (Goes phase) there t = turned place now call phase there t
continues_move w after responses place now call (Waits wait) there (inl t) = awoke place call wait there t.0 t.1 t.2
continues_move w after responses place now call (Waits wait) there (inr t) = stood t.1
continues_move w after responses place now call (Over ending) there t = stood t

steps_move : (w after : World) (responses : List Response) (place now : ℕ) (o : Option (Option Doing)) →
    slice_get w.actors place ≡ o → StepsAt w (suc place) now o responses after → Move w responses after
steps_move w after responses place now None there t = stood t
steps_move w after responses place now (Some None) there t = stood t
steps_move w after responses place now (Some (Some d)) there t =
    continues_move w after responses place now d.call d.state there t

pub moves : (w after : World) (x : Transition) (responses : List Response) → Makes w x responses after →
    Move w responses after
moves w after Preset responses (gave, (made, inl p)) = preset_made p.0 gave p.2
moves w after Preset responses (gave, (made, inr p)) = stood (gave, p.2)
moves w after (Start actor cred asked) responses (inl worn) = stood worn.1
moves w after (Start zero cred asked) responses (inr young) = stood young.1
moves w after (Start (suc place) cred asked) responses (inr young) =
    starts_move w after responses place cred asked (slice_get w.actors place) refl young.1
moves w after (Step actor now) responses (inl worn) = stood worn.1
moves w after (Step zero now) responses (inr young) = stood young.1
moves w after (Step (suc place) now) responses (inr young) =
    steps_move w after responses place now (slice_get w.actors place) refl young.1
