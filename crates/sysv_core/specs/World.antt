-- A world: the turns that were made in it, the calls that were started, what each actor does, and
-- the number of counted events so far; and the worlds to which a transition leads. A transition is a
-- preset, the start of an actor's call, or one step of it: one turn at one object, which has a
-- legal reply, or a look at the count for which the call waits (this project's profile).
use Rattle.std.specs.Prelude.{◌≡◌, ℕ, zero, suc, pos, ◌+◌, ◌<◌, ◌≤◌, ◌⊎◌, Bool, true, false, List, [], ◌∷◌, ◌++◌}
use Rattle.std.specs.Prelude.{Option, Some, None, replicate, slice_get, slice_set}
use Rattle.sysv_model.specs.declared.flags.Flags.{Flags}
use Rattle.sysv_model.specs.declared.cred.Cred.{Cred}
use Rattle.sysv_model.specs.declared.flags.TheConstants.Flags.{USER_READ, USER_WRITE}
use Rattle.sysv_model.specs.declared.limits.TheConstants.{IPC_PRIVATE, WORN}
use Rattle.sysv_model.specs.History.{Who, Actor, Install, Installed, arrived, freed}
use Rattle.sysv_model.specs.Registry.{Begin, Settle, Made, Changed, settled}
use Rattle.sysv_model.specs.Pool.{released}
use Rattle.sysv_model.specs.Turn.{Op, AtSlot, AtRegistry, asked_by, Turn, slot_history, registry_history}
use Rattle.sysv_model.specs.Turn.{pool_history}
use Rattle.sysv_keys.specs.Rows.{IsUnused}
use Rattle.sysv_objects.specs.LegalOp.{IsLegalOp}
use Rattle.sysv_steps.specs.Call.{SystemCall, kind_of}
use Rattle.sysv_steps.specs.State.{Phase, Wait, Ending, State, Goes, Waits, Over}
use Rattle.sysv_steps.specs.Begin.{begin}
use Rattle.sysv_steps.specs.Asks.{asks}
use Rattle.sysv_steps.specs.Next.{next}
use Rattle.sysv_steps.specs.Resume.{Count, ArrivedOf, FreedOf, Settled, Released, awaited, goal_of, resume}

-- What a world is opened with: the number of its actors, the number of blocks of its pool, its
-- first step number, and the generation of its identifiers.
pub record Opening : Type 0 where
  pub actors : ℕ
  pub blocks : ℕ
  pub first : ℕ
  pub generation : ℕ

-- A call that was started: by which actor at which step number, with which credentials, with which
-- arguments, and the released count at its start.
pub record Invocation : Type 0 where
  pub who : Who
  pub cred : Cred
  pub asked : SystemCall
  pub released : ℕ

-- A pending call and its state.
pub record Doing : Type 0 where
  pub call : Invocation
  pub state : State (kind_of call.asked)

-- A world, with everything that has happened in it.
pub record World : Type 0 where
  pub turns : List Turn  -- all that were made, in order
  pub calls : List Invocation  -- all that were started, in order
  pub actors : List (Option Doing)  -- none where the actor is idle
  pub steps : ℕ
  pub blocks : ℕ  -- those of the pool that it was opened with
  pub generation : ℕ  -- that with which its identifiers began

-- The world in which nothing has happened.
abbrev pub opening : Opening → World
opening o = record {
  turns = [];
  calls = [];
  actors = replicate o.actors None;
  steps = o.first;
  blocks = o.blocks;
  generation = o.generation;
}

-- A call that is over, and how it ended.
pub record Response : Type 0 where
  pub call : Invocation
  pub ending : Ending

-- What the actor does, if there is such an actor. Actors count from 1.
abbrev pub actor_at : List (Option Doing) → ℕ → Option (Option Doing)
actor_at actors zero = None
actor_at actors (suc place) = slice_get actors place

-- The actors, after this one is in this call, or is idle.
abbrev pub with_actor : List (Option Doing) → ℕ → Option Doing → List (Option Doing)
with_actor actors zero doing = actors
with_actor actors (suc place) doing = slice_set actors place doing

-- ---- where a call goes

-- The pending call of an actor whose call is in this state: none if the call is over.
abbrev pub doing_in : (call : Invocation) → State (kind_of call.asked) → Option Doing
doing_in call (Goes phase) = Some record { call = call; state = Goes phase }
doing_in call (Waits wait) = Some record { call = call; state = Waits wait }
doing_in call (Over ending) = None

-- The ending of a call in this state: none if the call is pending.
abbrev pub response_in : (call : Invocation) → State (kind_of call.asked) → List Response
response_in call (Goes phase) = []
response_in call (Waits wait) = []
response_in call (Over ending) = record { call = call; ending = ending } ∷ []

-- The world after the actor's call came to this state by one more counted event.
abbrev pub in_state : World → ℕ → (call : Invocation) → State (kind_of call.asked) → World
in_state w actor call state = record w { actors = with_actor w.actors actor (doing_in call state); steps = w.steps + 1 }

-- The world with one more call that was started.
abbrev pub with_call : World → Invocation → World
with_call w call = record w { calls = w.calls ++ call ∷ [] }

-- The world with one more turn that was made.
abbrev pub with_turn : World → Who → Op → World
with_turn w who op = record w { turns = w.turns ++ record { who = who; op = op } ∷ [] }

-- The world stays as it was, and no call ends.
abbrev pub StaysWith : World → List Response → World → Type 0
StaysWith w responses after = (responses ≡ []) × (after ≡ w)

-- ---- the start of a call

-- The call that the actor starts now.
abbrev pub starting : World → ℕ → Cred → SystemCall → Invocation
starting w actor cred asked =
    record { who = Actor actor w.steps; cred = cred; asked = asked; released = released (pool_history w.turns) }

-- The state of the call at its start.
abbrev pub begun : (call : Invocation) → State (kind_of call.asked)
begun call = begin call.cred call.asked call.released

-- The world after the start of this call, with its ending if it is over at once.
abbrev pub Begins : World → ℕ → Invocation → List Response → World → Type 0
Begins w actor call responses after =
    (responses ≡ response_in call (begun call)) × (after ≡ in_state (with_call w call) actor call (begun call))

-- ---- a step of a call

-- One turn of the call: it makes the request of that phase, has a legal reply, and leads to the
-- next state in the step table.
abbrev pub Turns : World → ℕ → (call : Invocation) → Phase (kind_of call.asked) → ℕ → List Response → World → Type 0
Turns w actor call phase now responses after =
    (op : Op) × (state : State (kind_of call.asked)) × (asked_by op ≡ asks phase now)
    × IsLegalOp w.generation w.blocks w.turns op
    × (next phase op ≡ Some state)
    × (responses ≡ response_in call state) × (after ≡ in_state (with_turn w call.who op) actor call state)

-- The value of a count after these turns.
abbrev pub value_of : List Turn → Count → ℕ
value_of turns (ArrivedOf slot) = arrived (slot_history slot turns)
value_of turns (FreedOf slot) = freed (slot_history slot turns)
value_of turns Settled = settled (registry_history turns)
value_of turns Released = released (pool_history turns)

-- The call looks at the count for which it waits. It continues if its goal is reached; else the
-- world stays as it was.
abbrev pub Looks : World → ℕ → (call : Invocation) → Wait (kind_of call.asked) → List Response → World → Type 0
Looks w actor call wait responses after =
    ((goal_of wait ≤ value_of w.turns (awaited wait)) × (responses ≡ [])
    × (after ≡ in_state w actor call (Goes (resume wait (value_of w.turns (awaited wait))))))
    ⊎ ((value_of w.turns (awaited wait) < goal_of wait) × StaysWith w responses after)

-- One step of a call in this state.
abbrev pub Continues : World → ℕ → ℕ → (call : Invocation) → State (kind_of call.asked) → List Response → World → Type 0
Continues w actor now call (Goes phase) responses after = Turns w actor call phase now responses after
Continues w actor now call (Waits wait) responses after = Looks w actor call wait responses after
Continues w actor now call (Over ending) responses after = StaysWith w responses after

-- ---- what can happen

-- What can happen in a world: a preset, the start of a call, or one step of a call.
pub data Transition : Type 0 where
  Preset : Transition
  Start : (actor : ℕ) (cred : Cred) (asked : SystemCall) → Transition
  Step : (actor now : ℕ) → Transition

-- The start of a call. The world stays as it was if the actor is in a call or does not exist.
abbrev pub StartsAt : World → ℕ → Cred → SystemCall → Option (Option Doing) → List Response → World → Type 0
StartsAt w actor cred asked None responses after = StaysWith w responses after
StartsAt w actor cred asked (Some (Some doing)) responses after = StaysWith w responses after
StartsAt w actor cred asked (Some None) responses after = Begins w actor (starting w actor cred asked) responses after

-- One step of a call. The world stays as it was if the actor is idle or does not exist.
abbrev pub StepsAt : World → ℕ → ℕ → Option (Option Doing) → List Response → World → Type 0
StepsAt w actor now None responses after = StaysWith w responses after
StepsAt w actor now (Some None) responses after = StaysWith w responses after
StepsAt w actor now (Some (Some doing)) responses after = Continues w actor now doing.call doing.state responses after

-- The caller of the preset queue: no actor. The preset queue is what msgget makes of the private
-- key for user and group 1000, readable and writable by its user, at time 0.
abbrev pub preset_who : Who
preset_who = Actor 0 0

-- The credentials with which it is made.
abbrev pub preset_cred : Cred
preset_cred = record { uid = 1000; gid = 1000; pid = 0 }

-- Its mode: readable and writable by its user.
abbrev pub preset_flags : Flags
preset_flags = record { 0 = USER_READ.0 + USER_WRITE.0 }

-- The turn that makes its identifier.
abbrev pub preset_begin : Op
preset_begin = AtRegistry (Begin IPC_PRIVATE preset_flags) (Made (pos 0))

-- The turn that installs it.
abbrev pub preset_install : Op
preset_install = AtSlot 0 (Install (pos 0) IPC_PRIVATE preset_cred preset_flags.0 0) (Installed true)

-- The turn that settles its identifier.
abbrev pub preset_settle : Op
preset_settle = AtRegistry (Settle (pos 0)) (Changed true)

-- These turns, and then the three of a preset.
abbrev pub with_preset_turns : List Turn → List Turn
with_preset_turns turns =
    ((turns ++ record { who = preset_who; op = preset_begin } ∷ [])
    ++ record { who = preset_who; op = preset_install } ∷ [])
    ++ record { who = preset_who; op = preset_settle } ∷ []

-- The world after a preset that made the queue.
abbrev pub with_preset : World → World
with_preset w = record w { turns = with_preset_turns w.turns }

-- A preset makes the queue in three turns if slot 0 has no row and generation 0. Else it changes
-- nothing. It is not counted.
abbrev pub Presets : World → Bool → World → Type 0
Presets w made after =
    (IsUnused w.generation (registry_history w.turns) 0 × (made ≡ true) × (after ≡ with_preset w))
    ⊎ (¬ IsUnused w.generation (registry_history w.turns) 0 × (made ≡ false) × (after ≡ w))

-- What a transition makes of a world. From step number 2^62 on, a start or a step finds the world
-- worn out and changes nothing.
abbrev pub Makes : World → Transition → List Response → World → Type 0
Makes w Preset responses after = (responses ≡ []) × ((made : Bool) × Presets w made after)
Makes w (Start actor cred asked) responses after =
    ((WORN ≤ w.steps) × StaysWith w responses after)
    ⊎ ((w.steps < WORN) × StartsAt w actor cred asked (actor_at w.actors actor) responses after)
Makes w (Step actor now) responses after =
    ((WORN ≤ w.steps) × StaysWith w responses after)
    ⊎ ((w.steps < WORN) × StepsAt w actor now (actor_at w.actors actor) responses after)
