-- The steps of a call are few. From its start to its end or to its first wait, and from the end of
-- a wait to its end or to its next wait, a call makes at most four turns: a msgsnd four, a msgget
-- and an IPC_RMID three, a msgrcv and an IPC_SET two, and an IPC_STAT one. So no call goes round
-- and round without a wait, whatever the replies are. On threads this also holds of a call that
-- finds gates worn out. In a world such a call is over or waits after this number of events, if
-- they are its own steps. It is not claimed that a wait ends (this project's profile).
use Rattle.std.specs.Prelude.{◌≡◌, ◌⊎◌, ℕ, ◌+◌, ◌≤◌, false, List, length, map, take, Contains, Some}
use Rattle.sysv_model.specs.declared.cred.Cred.{Cred}
use Rattle.sysv_model.specs.declared.limits.TheConstants.{WORN}
use Rattle.sysv_model.specs.Turn.{Op}
use Rattle.sysv_steps.specs.Call.{SystemCall, Kind, Gets, Sends, Receives, Stats, Sets, Removes, kind_of}
use Rattle.sysv_steps.specs.State.{Phase, AtInstall, Wait, Ending, State, Goes, Waits}
use Rattle.sysv_steps.specs.Begin.{is_refused, begin}
use Rattle.sysv_steps.specs.Played.{Plays, begins, steps, resumes}
use Rattle.sysv_core.specs.World.{World, Opening, Invocation, Doing, Response, Transition, Step, opening, actor_at}
use Rattle.sysv_core.specs.Run.{Leads}
use Rattle.sysv_service.specs.Ran as ran
use Rattle.sysv_service.specs.Ran.{Pass, Ran}

-- The most turns that a call makes from its start, or from the end of a wait, to its end or to its
-- next wait.
abbrev pub most_turns : Kind → ℕ
most_turns Gets = 3
most_turns Sends = 4
most_turns Receives = 2
most_turns Stats = 1
most_turns Sets = 2
most_turns Removes = 3

-- ---- along the step table

-- The number of turns that a call has made since its start, or since the end of its last wait.
abbrev pub turns_since : {kind : Kind} (from : State kind) (ops : List Op) (state : State kind) →
    Plays from ops state → ℕ
turns_since from _ _ begins = 0
turns_since from _ _ (steps {ops} {phase} op now after play asked row) =
    turns_since from ops (Goes phase) play + 1
turns_since from _ _ (resumes {ops} {wait} value play least) = 0

-- No call makes more turns than that from any state, whatever the replies are.
abbrev pub EachCallMakesFewTurns : Type 0
EachCallMakesFewTurns = (kind : Kind) (from : State kind) (ops : List Op) (state : State kind) →
    (play : Plays from ops state) → turns_since from ops state play ≤ most_turns kind

-- From this state the call can make this number of turns without a wait.
abbrev pub IsReached : {kind : Kind} → State kind → ℕ → Type 0
IsReached {kind} from number = (ops : List Op) × (state : State kind) × (play : Plays from ops state)
    × (turns_since from ops state play ≡ number)

-- The step table has plays with that number of turns, for all arguments that are not refused. So no
-- smaller number would do.
abbrev pub EachNumberIsReached : Type 0
EachNumberIsReached = (cred : Cred) (asked : SystemCall) (released : ℕ) → is_refused asked ≡ false →
    IsReached (begin cred asked released) (most_turns (kind_of asked))

-- ---- on threads

-- The number of gates that a call comes to in a step that finds the first of them worn out: two if
-- a queue could not be installed, since its identifier is then forgotten, else one.
abbrev pub gates_when_worn : {kind : Kind} → Phase kind → ℕ
gates_when_worn (AtInstall get id) = 2
gates_when_worn phase = 1

-- The number of times that a call has come to a gate since its start, or since the end of its last
-- wait. Each time it made a turn there or found the gate worn out.
abbrev pub gates_since : {kind : Kind} (may : ℕ → Type 0) (from : State kind) (old : Pass) (ops : List Op)
    (state : State kind) (new : Pass) → Ran may from old ops state new → ℕ
gates_since may from old _ _ _ ran.begins = 0
gates_since may from old _ _ _ (ran.steps {ops} {phase} {mid} state new run step) =
    gates_since may from old ops (Goes phase) mid run + 1
gates_since may from old _ _ _ (ran.turns_back {ops} {phase} {mid} state new run step) =
    gates_since may from old ops (Goes phase) mid run + gates_when_worn phase
gates_since may from old _ _ _ (ran.reads {ops} {state} {mid} count value new run read same) =
    gates_since may from old ops state mid run
gates_since may from old _ _ _ (ran.resumes {ops} {wait} {mid} value new run reached read same) = 0
gates_since may from old _ _ _ (ran.gives_up {ops} {wait} {mid} value new run below read same) = 0

-- No call of a pass comes to a gate more often than that.
abbrev pub EachCallComesToFewGates : (ℕ → Type 0) → Type 0
EachCallComesToFewGates may = (kind : Kind) (from : State kind) (old : Pass) (ops : List Op) (state : State kind)
    (new : Pass) → (run : Ran may from old ops state new) → gates_since may from old ops state new run ≤ most_turns kind

-- ---- in a world

-- The steps of an actor at these times.
abbrev pub steps_at : ℕ → List ℕ → List Transition
steps_at actor times = map (Step actor) times

-- The call is over, or its actor waits in it.
abbrev pub IsOverOrWaits : World → List Response → ℕ → Invocation → Type 0
IsOverOrWaits w responses actor call =
    ((ending : Ending) × Contains responses (record { call = call; ending = ending }))
    ⊎ ((wait : Wait (kind_of call.asked))
    × (actor_at w.actors actor ≡ Some (Some record { call = call; state = Waits wait })))

-- The first of these steps of the actor, at most `most` of them, lead to a world in which the call
-- is over or waits.
pub record ComesToRest (w : World) (actor : ℕ) (call : Invocation) (most : ℕ) (times : List ℕ) : Type 0 where
  pub count : ℕ
  pub few : count ≤ most
  pub responses : List Response
  pub after : World
  pub leads : Leads w (steps_at actor (take count times)) responses after
  pub rests : IsOverOrWaits after responses actor call

-- A call that is before a step is over or waits after at most that number of steps of its actor, if
-- no other actor makes a step between them and the world is not worn out before.
abbrev pub EachCallComesToRest : Type 0
EachCallComesToRest = (o : Opening) (list : List Transition) (responses : List Response) (w : World) →
    Leads (opening o) list responses w → (actor : ℕ) (d : Doing) (phase : Phase (kind_of d.call.asked)) →
    actor_at w.actors actor ≡ Some (Some d) → d.state ≡ Goes phase →
    w.steps + most_turns (kind_of d.call.asked) ≤ WORN →
    (times : List ℕ) → most_turns (kind_of d.call.asked) ≤ length times →
    ComesToRest w actor d.call (most_turns (kind_of d.call.asked)) times
