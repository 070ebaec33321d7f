-- An execution: what threads can make of a world. Its turns are those of a world. What a call reads
-- between its turns may be anything, because no thread sees all objects at once, and because a
-- count is announced just before the turn that raises it ends. So a call starts with any released
-- count, and a wait ends with any value that is at least its goal. A row may be read at any time,
-- in a turn that belongs to no call. Nothing wears out (this project's profile).
use Rattle.std.specs.Prelude.{◌≡◌, ◌≤◌, ℕ, List, [], ◌∷◌, ◌++◌, Some, None}
use Rattle.sysv_model.specs.declared.cred.Cred.{Cred}
use Rattle.sysv_model.specs.History.{Who, Actor, ReadRow, Reply}
use Rattle.sysv_model.specs.Turn.{AtSlot}
use Rattle.sysv_objects.specs.LegalOp.{IsLegalOp}
use Rattle.sysv_steps.specs.Call.{SystemCall, kind_of}
use Rattle.sysv_steps.specs.State.{Phase, Wait, Goes, Waits}
use Rattle.sysv_steps.specs.Resume.{goal_of, resume}
use Rattle.sysv_core.specs.World.{World, Invocation, Response, actor_at, in_state, with_turn, Begins, Turns}

-- What can happen, one at a time.
pub data Moment : Type 0 where
  -- An actor starts a call, and reads this released count.
  Starts : (actor : ℕ) (cred : Cred) (asked : SystemCall) (released : ℕ) → Moment
  -- The actor's call makes a turn at this time.
  TakesTurn : (actor now : ℕ) → Moment
  -- The wait of the actor's call ends with this value.
  Wakes : (actor value : ℕ) → Moment
  -- The row of a slot is read.
  Reads : (slot : ℕ) → Moment

-- The caller of a turn that reads a row: no actor. Actors count from 1.
abbrev pub nobody : Who
nobody = Actor 0 0

-- The call that the actor starts now.
abbrev pub starting_with : World → ℕ → Cred → SystemCall → ℕ → Invocation
starting_with w actor cred asked released =
    record { who = Actor actor w.steps; cred = cred; asked = asked; released = released }

-- The actor is idle and starts the call.
abbrev pub StartsCall : World → ℕ → Cred → SystemCall → ℕ → List Response → World → Type 0
StartsCall w actor cred asked released responses after =
    (actor_at w.actors actor ≡ Some None) × Begins w actor (starting_with w actor cred asked released) responses after

-- The actor's call is before a step and makes the turn of that step.
abbrev pub TakesItsTurn : World → ℕ → ℕ → List Response → World → Type 0
TakesItsTurn w actor now responses after =
    (call : Invocation) × (phase : Phase (kind_of call.asked))
    × (actor_at w.actors actor ≡ Some (Some record { call = call; state = Goes phase }))
    × Turns w actor call phase now responses after

-- The actor's call waits, the value is at least its goal, and the call continues.
abbrev pub WakesUp : World → ℕ → ℕ → List Response → World → Type 0
WakesUp w actor value responses after =
    (call : Invocation) × (wait : Wait (kind_of call.asked))
    × (actor_at w.actors actor ≡ Some (Some record { call = call; state = Waits wait }))
    × (goal_of wait ≤ value) × (responses ≡ []) × (after ≡ in_state w actor call (Goes (resume wait value)))

-- The slot reports its row, and no call continues.
abbrev pub ReadsRow : World → ℕ → List Response → World → Type 0
ReadsRow w slot responses after =
    (reply : Reply) × IsLegalOp w.generation w.blocks w.turns (AtSlot slot ReadRow reply) × (responses ≡ [])
    × (after ≡ with_turn w nobody (AtSlot slot ReadRow reply))

-- The moment leads from one world to another, with these endings.
abbrev pub Brings : World → Moment → List Response → World → Type 0
Brings w (Starts actor cred asked released) responses after = StartsCall w actor cred asked released responses after
Brings w (TakesTurn actor now) responses after = TakesItsTurn w actor now responses after
Brings w (Wakes actor value) responses after = WakesUp w actor value responses after
Brings w (Reads slot) responses after = ReadsRow w slot responses after

-- A list of moments leads from one world to another, with these endings in order.
abbrev pub LeadsOnThreads : World → List Moment → List Response → World → Type 0
LeadsOnThreads w [] responses after = (responses ≡ []) × (after ≡ w)
LeadsOnThreads w (x ∷ xs) responses after =
    (mid : World) × (one : List Response) × (rest : List Response) × Brings w x one mid
    × LeadsOnThreads mid xs rest after
    × (responses ≡ one ++ rest)
