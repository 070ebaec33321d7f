-- Proves that a call plays the turns that it made, which are exactly those that its pass made in
-- the call.
use Rattle.std.proofs.Common.{ℕ, List}
use Rattle.sysv_model.specs.Turn.{Op}
use Rattle.sysv_steps.specs.Call.{Kind}
use Rattle.sysv_steps.specs.State.{State, Goes, Waits}
use Rattle.sysv_steps.specs.Played as played
use Rattle.sysv_steps.specs.Played.{Plays}
use Rattle.sysv_service.specs.OwnTurns.{EachPlaysItsOwn}
use Rattle.sysv_service.specs.Ran.{Pass, Ran, FindsTurns, begins, steps, turns_back, reads, resumes, gives_up}
use Rattle.sysv_service.proofs.DoneByPass.{does}
use Rattle.sysv_service.proofs.MarkStays.{finds_turns}
use Rattle.sysv_service.proofs.PlayedWithWorn.{comes}

-- A call that found no gate worn out is played.
module _ {kind : Kind} (may : ℕ → Type 0) (from : State kind) (old : Pass) where
  pub plays : (ops : List Op) (state : State kind) (new : Pass) (ran : Ran may from old ops state new) →
      FindsTurns ran → Plays from ops state
  plays _ _ _ begins found = played.begins
  plays _ _ _ (steps {ops} {phase} {mid} state new ran step) found =
      played.steps step.op step.now state (plays ops (Goes phase) mid ran found) step.asked step.goes
  plays _ _ _ (turns_back {ops} {phase} {mid} state new ran step) found = absurd found
  plays _ _ _ (reads {ops} {state} {mid} count value new ran r same) found = plays ops state mid ran found
  plays _ _ _ (resumes {ops} {wait} {mid} value new ran reached r same) found =
      played.resumes value (plays ops (Waits wait) mid ran found) reached
  plays _ _ _ (gives_up {ops} {wait} {mid} value new ran below r same) found = absurd found

pub each_plays : (may : ℕ → Type 0) → EachPlaysItsOwn may
each_plays may kind from old ops state new ran = record {
  own = does may from old ops state new ran;
  comes = comes may from old ops state new ran;
  plays = plays may from old ops state new ran;
  unmarked = λ none. (finds_turns may from old ops state new ran none).0;
}
