-- A call plays its operations to a state if the step table, taken along them from the state at its
-- start, leads there: each operation makes the request of the step before which the call is, and
-- its reply leads to the next state. A wait ends with a value that is at least its goal; that is no
-- operation (this project's profile).
use Rattle.std.specs.Prelude.{◌≡◌, ℕ, ◌≤◌, List, [], ◌∷◌, ◌++◌, Some}
use Rattle.sysv_model.specs.Turn.{Op, asked_by}
use Rattle.sysv_steps.specs.Call.{Kind}
use Rattle.sysv_steps.specs.State.{Phase, Wait, State, Goes, Waits}
use Rattle.sysv_steps.specs.Asks.{asks}
use Rattle.sysv_steps.specs.Next.{next}
use Rattle.sysv_steps.specs.Resume.{goal_of, resume}

pub data Plays {kind : Kind} (from : State kind) : List Op → State kind → Type 0 where
  -- The call has made no step.
  begins : Plays from [] from
  -- The call made one more turn.
  steps : {ops : List Op} {phase : Phase kind} (op : Op) (now : ℕ) (after : State kind) →
      Plays from ops (Goes phase) → asked_by op ≡ asks phase now → next phase op ≡ Some after →
      Plays from (ops ++ op ∷ []) after
  -- The wait of the call ended.
  resumes : {ops : List Op} {wait : Wait kind} (value : ℕ) →
      Plays from ops (Waits wait) → goal_of wait ≤ value →
      Plays from ops (Goes (resume wait value))
