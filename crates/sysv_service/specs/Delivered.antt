-- A receive that is over has taken, in one of its turns, the message that it returns (POSIX.1-2017,
-- msgrcv).
use Rattle.std.specs.Prelude.{ℕ, List}
use Rattle.sysv_model.specs.Turn.{Op}
use Rattle.sysv_queue.specs.Delivery.{Given}
use Rattle.sysv_steps.specs.Call.{Receives}
use Rattle.sysv_steps.specs.declared.receive.ReceiveStep.{ReceiveStep}
use Rattle.sysv_steps.specs.Seen.{receive_state}
use Rattle.sysv_steps.specs.State.{State, Ending, Over}
use Rattle.sysv_steps.specs.Giving.{ReceiveKept, HaveTaken, HasWhatItGives, StepsGiving as StepsGivingFor}
use Rattle.sysv_service.specs.Seats.{MakesTurnAt, FindsWorn}
use Rattle.sysv_service.specs.Ran.{Pass, Ran}

-- The call has made these turns, one of which took the message that it returns, and is over.
pub record HasGiven (may : ℕ → Type 0) (from : State Receives) (old : Pass) (given : Given) (new : Pass) : Type 0 where
  pub ending : Ending
  pub ops : List Op
  pub ran : Ran may from old ops (Over ending) new
  pub taken : HaveTaken given ops

-- ---- on the way

-- One step, after which the receive still has what it will return, or has just taken it.
abbrev pub StepsGiving : (ℕ → Type 0) → ReceiveStep → List ℕ → Pass → ReceiveKept → List ℕ → Pass → Type 0
StepsGiving may there text before kept out after =
    StepsGivingFor MakesTurnAt FindsWorn may there text before.seats before.held kept out after.seats after.held

-- The turns of the call so far, with the turn that took what it will return among them, if it has
-- taken it.
abbrev pub ComesGiving : (ℕ → Type 0) → State Receives → Pass → ReceiveKept → List ℕ → Pass → Type 0
ComesGiving may from old kept out new =
    (ops : List Op) × Ran may from old ops (receive_state kept out) new × HasWhatItGives kept ops
