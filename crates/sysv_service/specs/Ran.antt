-- What a call of a pass did: the step table taken along the turns that the call made at the gates,
-- each of them a turn of the pass's own, with the counts that the call read between them
-- (POSIX.1-2017, msgget, msgsnd, msgrcv and msgctl; the steps are this project's profile).
use Rattle.std.specs.Prelude.{◌≡◌, ℕ, ℤ, ◌<◌, ◌≤◌, ◌⊎◌, ⊤, List, [], ◌∷◌, ◌++◌}
use Rattle.sysv_model.specs.declared.errno.Errno.TheVariants.{EOVERFLOW}
use Rattle.sysv_model.specs.Turn.{Op}
use Rattle.sysv_steps.specs.Call.{Kind}
use Rattle.sysv_steps.specs.State.{Phase, Refused, State, Wait, Goes, Waits, Over}
use Rattle.sysv_steps.specs.Resume.{Count, awaited, goal_of, resume}
use Rattle.sysv_steps.specs.Stepping.{Makes as MakesFor, Steps as StepsFor, Forgets as ForgetsFor}
use Rattle.sysv_steps.specs.Stepping.{TurnsBack as TurnsBackFor, FindsNoTurn as FindsNoTurnFor}
use Rattle.sysv_service.specs.Seats.{Seats, MakesTurnAt, FindsWorn}
use Rattle.sysv_service.specs.Reading.{Reads, GivesUp}

-- A pass: its seat at each object, and the blocks of the chains that it could not return.
pub record Pass : Type 0 where
  pub seats : Seats
  pub held : ℕ

-- The pass made the turn.
abbrev pub Makes : Pass → Op → Pass → Type 0
Makes before op after = MakesFor MakesTurnAt FindsWorn before.seats before.held op after.seats after.held

-- One step of a call: a turn at its object.
abbrev pub Steps : {kind : Kind} → (ℕ → Type 0) → Phase kind → Pass → State kind → Pass → Type 0
Steps may phase before state after =
    StepsFor MakesTurnAt FindsWorn may phase before.seats before.held state after.seats after.held

-- The identifier is forgotten, if the registry's gate is not worn out too.
abbrev pub Forgets : ℤ → Pass → List Op → Pass → Type 0
Forgets id before ops after =
    ForgetsFor MakesTurnAt FindsWorn id before.seats before.held ops after.seats after.held

-- What a call does after it found the gate of a step worn out.
abbrev pub TurnsBack : {kind : Kind} → Phase kind → Pass → List Op → State kind → Pass → Type 0
TurnsBack phase before ops state after =
    TurnsBackFor MakesTurnAt FindsWorn phase before.seats before.held ops state after.seats after.held

-- A step of a call whose gate is worn out, with the turns that the call then made.
abbrev pub FindsNoTurn : {kind : Kind} → (ℕ → Type 0) → Phase kind → Pass → State kind → Pass → Type 0
FindsNoTurn may phase before state after =
    FindsNoTurnFor MakesTurnAt FindsWorn may phase before.seats before.held state after.seats after.held

-- ---- calls

-- The call was in the state `from` with the pass `old`. It has made these turns, and is now in this
-- state with this pass.
pub data Ran {kind : Kind} (may : ℕ → Type 0) (from : State kind) (old : Pass) : List Op → State kind → Pass →
    Type 0 where
  -- It has made no step.
  begins : Ran may from old [] from old
  -- It made one more turn.
  steps : {ops : List Op} {phase : Phase kind} {mid : Pass} (state : State kind) (new : Pass) →
      Ran may from old ops (Goes phase) mid → (step : Steps may phase mid state new) →
      Ran may from old (ops ++ step.op ∷ []) state new
  -- It found the gate of a step worn out.
  turns_back : {ops : List Op} {phase : Phase kind} {mid : Pass} (state : State kind) (new : Pass) →
      Ran may from old ops (Goes phase) mid → (step : FindsNoTurn may phase mid state new) →
      Ran may from old (ops ++ step.ops) state new
  -- It read a count.
  reads : {ops : List Op} {state : State kind} {mid : Pass} (count : Count) (value : ℕ) (new : Pass) →
      Ran may from old ops state mid → Reads count value mid.seats new.seats → new.held ≡ mid.held →
      Ran may from old ops state new
  -- It read the count for which it waited, and found it at its goal.
  resumes : {ops : List Op} {wait : Wait kind} {mid : Pass} (value : ℕ) (new : Pass) →
      Ran may from old ops (Waits wait) mid → goal_of wait ≤ value → Reads (awaited wait) value mid.seats new.seats →
      new.held ≡ mid.held →
      Ran may from old ops (Goes (resume wait value)) new
  -- It read the count for which it waited, found it below its goal, and found the gate of its
  -- object worn out.
  gives_up : {ops : List Op} {wait : Wait kind} {mid : Pass} (value : ℕ) (new : Pass) →
      Ran may from old ops (Waits wait) mid → value < goal_of wait →
      GivesUp (awaited wait) value mid.seats new.seats → new.held ≡ mid.held →
      Ran may from old ops (Over (Refused EOVERFLOW)) new

-- The call found no gate worn out, whatever other calls of its pass found before.
abbrev pub FindsTurns : {kind : Kind} {may : ℕ → Type 0} {from : State kind} {old : Pass} {ops : List Op}
    {state : State kind} {new : Pass} → Ran may from old ops state new → Type 0
FindsTurns begins = ⊤
FindsTurns (steps state new ran step) = FindsTurns ran
FindsTurns (turns_back state new ran step) = ⊥
FindsTurns (reads count value new ran read same) = FindsTurns ran
FindsTurns (resumes value new ran reached read same) = FindsTurns ran
FindsTurns (gives_up value new ran below read same) = ⊥

-- The call is now in this state.
abbrev pub Comes : {kind : Kind} → (ℕ → Type 0) → State kind → Pass → State kind → Pass → Type 0
Comes may from old state new = (ops : List Op) × Ran may from old ops state new

-- One step of a call.
abbrev pub StepsOn : {kind : Kind} → (ℕ → Type 0) → Phase kind → Pass → State kind → Pass → Type 0
StepsOn may phase before state after = Steps may phase before state after ⊎ FindsNoTurn may phase before state after
