-- The result of a start or a step of a call in the code, as a state of the definitions (this
-- project's profile).
use Rattle.std.specs.Prelude.{◌≡◌, ◌<◌, ◌≤◌, ◌⊎◌, ℕ, List, Some}
use Rattle.sysv_model.specs.Turn.{Op, Turn, asked_by}
use Rattle.sysv_objects.specs.Objects.{Objects}
use Rattle.sysv_objects.specs.Represents.{Represents, MakesTurn}
use Rattle.sysv_steps.specs.Call.{Kind}
use Rattle.sysv_steps.specs.State.{Phase, Wait, State, Goes, Waits, Over}
use Rattle.sysv_steps.specs.Asks.{asks}
use Rattle.sysv_steps.specs.Next.{next}
use Rattle.sysv_steps.specs.Resume.{awaited, goal_of, resume}
use Rattle.sysv_core.specs.declared.actor.Doing.{Doing}
use Rattle.sysv_core.specs.declared.actor.Led.{Led}
use Rattle.sysv_core.specs.declared.actor.Led.TheVariants as led
use Rattle.sysv_steps.specs.Answered.{TellsEnding}
use Rattle.sysv_steps.specs.Kinds.{gives_back}
use Rattle.sysv_steps.specs.Pending.{pending}
use Rattle.sysv_core.specs.Kept.{returned}
use Rattle.sysv_core.specs.Standing.{of_state, doing_state}
use Rattle.sysv_core.specs.World.{value_of}

-- The code's call continues in the state in which the definitions' call is, or both are over and
-- the code reports the ending, with the body or without it. A spare body is not reported.
abbrev pub LeadsTo : {kind : Kind} → State kind → Led → Type 0
LeadsTo state (led.To doing) = pending state ≡ doing_state doing
LeadsTo {kind} (Over ending) (led.Over ended body) =
    TellsEnding (gives_back kind) ending ended.outcome (returned ended.receives body)
LeadsTo (Goes phase) (led.Over ended body) = ⊥
LeadsTo (Waits wait) (led.Over ended body) = ⊥
LeadsTo state (led.Stays doing) = ⊥

-- One turn of the call in that phase at its object, and its result.
pub record TurnLeads {kind : Kind} (old : Objects) (phase : Phase kind) (now : ℕ) (result : Led)
    (new : Objects) : Type 0 where
  pub op : Op
  pub state : State kind
  pub asked : asked_by op ≡ asks phase now
  pub turn : MakesTurn old op new
  pub goes : next phase op ≡ Some state
  pub leads : LeadsTo state result

-- The call still is in the state in which it was.
abbrev pub Stays : {kind : Kind} → State kind → Led → Type 0
Stays state (led.Stays doing) = pending state ≡ doing_state doing
Stays state (led.To doing) = ⊥
Stays state (led.Over ended body) = ⊥

-- The call's look at the count for which it waits: it continues if its goal is reached, else it
-- still waits.
abbrev pub LookLeads : {kind : Kind} → Objects → Wait kind → Led → Type 0
LookLeads objects wait result = (generation : ℕ) (turns : List Turn) → Represents generation turns objects →
    ((goal_of wait ≤ value_of turns (awaited wait))
    × LeadsTo (Goes (resume wait (value_of turns (awaited wait)))) result)
    ⊎ ((value_of turns (awaited wait) < goal_of wait) × Stays (Waits wait) result)

-- One step of a call in this state.
abbrev pub StepLeads : {kind : Kind} → Objects → State kind → ℕ → Led → Objects → Type 0
StepLeads old (Goes phase) now result new = TurnLeads old phase now result new
StepLeads old (Waits wait) now result new = LookLeads old wait result × (new ≡ old)
StepLeads old (Over ending) now result new = ⊥

-- One step of this pending call.
abbrev pub DoingLeads : Objects → Doing → ℕ → Led → Objects → Type 0
DoingLeads old doing now result new = of_state (λ kind state. StepLeads old state now result new) doing
