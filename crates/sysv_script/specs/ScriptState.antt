-- What a line of a script does on a script state and prints (this project's script language): the size of
-- the pool, a preset, the credentials of an actor, the time of later steps, a call that is started,
-- or steps of pending calls. A call continues until it is over or waits, with at most 16 steps at
-- a line; a step of a call whose count has not reached its goal changes nothing. Each line that
-- starts or continues a call prints one line for it: its result, or its state after that.
use Rattle.std.specs.Prelude.{◌≡◌, ℕ, zero, suc, ◌+◌, ◌-◌, Bool, true, false, List, [], ◌∷◌, ◌++◌, Option, Some, None}
use Rattle.std.specs.Prelude.{map, slice_get, slice_set, unwrap_or, if◌then◌else◌}
use Rattle.std.specs.List.{range_with_len}
use Rattle.sysv_model.specs.declared.cred.Cred.{Cred}
use Rattle.sysv_steps.specs.Call.{SystemCall, Msgget, Msgsnd, Msgrcv, MsgctlStat, MsgctlSet, MsgctlRmid}
use Rattle.sysv_steps.specs.declared.call.Call.{Call}
use Rattle.sysv_steps.specs.declared.call.Call.TheVariants as call
use Rattle.sysv_core.specs.declared.event.Event.{Event}
use Rattle.sysv_core.specs.declared.event.Event.TheVariants.{Start, Step}
use Rattle.sysv_core.specs.declared.event.Stepped.{Stepped}
use Rattle.sysv_core.specs.declared.event.Stepped.TheVariants as stepped
use Rattle.sysv_core.specs.World.{World, Doing, actor_at, opening, Presets}
use Rattle.sysv_core.specs.Seen.{Steps}
use Rattle.sysv_script.specs.Said.{Said, Nothing, MakesPreset, GivesCred, GivesMoment, Starts, StepsOnce, Continues}
use Rattle.sysv_script.specs.Said.{AllContinue, GivesBlocks}
use Rattle.sysv_script.specs.declared.names.Operation.{Operation}
use Rattle.sysv_script.specs.declared.head.Head.TheVariants as head
use Rattle.sysv_script.specs.Heads.{head_text}
use Rattle.sysv_script.specs.Names.{operation_of, standing_text}
use Rattle.sysv_script.specs.declared.actor.TheConstants.{SCRIPT_ACTORS}
use Rattle.sysv_script.specs.declared.stage.TheConstants.{SCRIPT_BLOCKS, MAX_STEPS}

-- What a script runs on: the world, the credentials of each actor, those of actor A at place A - 1,
-- the time of each step, and whether every line so far was skipped.
pub record ScriptState : Type 0 where
  pub world : World
  pub creds : List Cred
  pub moment : ℕ
  pub fresh : Bool

-- The first credentials of an actor: user and group 1000, and a process of its own.
abbrev pub first_cred : ℕ → Cred
first_cred actor = record { uid = 1000; gid = 1000; pid = 100 + actor }

-- A world of 16 actors and this number of blocks, in which nothing has happened.
abbrev pub opening_world : ℕ → World
opening_world blocks = opening record { actors = SCRIPT_ACTORS; blocks = blocks; first = 0; generation = 0 }

-- The script state of such a world, with the first credentials of the actors 1 to 16.
abbrev pub opening_script_state : ScriptState
opening_script_state = record {
  world = opening_world SCRIPT_BLOCKS;
  creds = map first_cred (range_with_len 1 SCRIPT_ACTORS);
  moment = 0;
  fresh = true;
}

-- The credentials of an actor, if there is such an actor. Actors count from 1.
abbrev pub cred_at : List Cred → ℕ → Option Cred
cred_at creds zero = None
cred_at creds (suc place) = slice_get creds place

-- The credentials, with these for the actor.
abbrev pub with_cred : List Cred → ℕ → Cred → List Cred
with_cred creds actor cred = slice_set creds (actor - 1) cred

-- The script state with another world.
abbrev pub in_world : ScriptState → World → ScriptState
in_world s world = record s { world = world }

-- The kind of the call that an actor is in: none if it is idle or does not exist.
abbrev pub pending : Option (Option Doing) → Option Operation
pending None = None
pending (Some None) = None
pending (Some (Some doing)) = Some (operation_of doing.call.asked)

-- One event in the world. The rest of the script state stays as it was.
abbrev pub Advances : ScriptState → Event → Stepped → ScriptState → Type 0
Advances s event given after = Steps s.world event given after.world × (after ≡ in_world s after.world)

-- After the result of the last event, the actor makes at most this many more steps, until its call
-- is over.
abbrev pub GoesOn : ℕ → ScriptState → ℕ → Stepped → Stepped → ScriptState → Type 0
GoesOn zero s actor stepped.Nothing given after = (given ≡ stepped.Nothing) × (after ≡ s)
GoesOn (suc n) s actor stepped.Nothing given after =
    (mid : ScriptState) × (next : Stepped) × Advances s (Step actor s.moment) next mid
    × GoesOn n mid actor next given after
GoesOn n s actor (stepped.Answer answer) given after = (given ≡ stepped.Answer answer) × (after ≡ s)
GoesOn n s actor stepped.Worn given after = (given ≡ stepped.Worn) × (after ≡ s)

-- The call as an event of the world starts it. A receive brings an empty body.
abbrev pub call_for : SystemCall → Call (List ℕ) (List ℕ)
call_for (Msgget key flags) = call.Get key flags
call_for (Msgsnd id mtype flags text) = call.Send id mtype flags text
call_for (Msgrcv id size mtype flags) = call.Receive id size mtype flags []
call_for (MsgctlStat id) = call.Stat id
call_for (MsgctlSet id to) = call.Set id to
call_for (MsgctlRmid id) = call.Remove id

-- A call is started with the present credentials of the actor.
abbrev pub StartsAs : ScriptState → ℕ → Call (List ℕ) (List ℕ) → Stepped → ScriptState → Type 0
StartsAs s actor call given after =
    (cred : Cred) × (cred_at s.creds actor ≡ Some cred) × Advances s (Start actor cred call) given after

-- The maximum number of steps at the line that starts a call: none if the call is only started.
abbrev pub most_steps : Bool → ℕ
most_steps true = MAX_STEPS
most_steps false = 0

-- The call from its start to its last result at this line.
abbrev pub CallRuns : ScriptState → ℕ → SystemCall → Bool → Stepped → ScriptState → Type 0
CallRuns s actor asked goes given after =
    (mid : ScriptState) × (first : Stepped) × StartsAs s actor (call_for asked) first mid
    × GoesOn (most_steps goes) mid actor first given after

-- The line that is printed if the call of the actor has no result yet: its state.
abbrev pub standing_line : ℕ → Option (Option Doing) → List ℕ
standing_line actor (Some (Some doing)) = standing_text actor doing.state ++ 10 ∷ []
standing_line actor (Some None) = head_text (head.Idle actor) ++ 10 ∷ []
standing_line actor None = head_text (head.Idle actor) ++ 10 ∷ []

-- The line that is printed after the steps of an actor's call: its result, with the bytes of a
-- message unchanged, or its state.
abbrev pub printed : World → ℕ → Operation → Stepped → List ℕ
printed w actor operation (stepped.Answer answer) =
    head_text (head.Answers answer.actor operation answer.result) ++ (unwrap_or answer.body [] ++ 10 ∷ [])
printed w actor operation stepped.Worn = head_text (head.Worn actor) ++ 10 ∷ []
printed w actor operation stepped.Nothing = standing_line actor (actor_at w.actors actor)

-- A line that starts a call of an actor. An actor whose call of this kind is pending starts no
-- other one.
abbrev pub StartRuns : ScriptState → ℕ → SystemCall → Bool → Option Operation → List ℕ → ScriptState → Type 0
StartRuns s actor asked goes (Some operation) out after = (out ≡ head_text (head.Busy actor) ++ 10 ∷ []) × (after ≡ s)
StartRuns s actor asked goes None out after = (given : Stepped) × CallRuns s actor asked goes given after
    × (out ≡ printed after.world actor (operation_of asked) given)

-- A line that continues the call of this kind by at most this number of steps. If no call is under
-- way, the line states that.
abbrev pub StepsRun : ℕ → ScriptState → ℕ → Option Operation → List ℕ → ScriptState → Type 0
StepsRun n s actor None out after = (out ≡ head_text (head.Idle actor) ++ 10 ∷ []) × (after ≡ s)
StepsRun n s actor (Some operation) out after =
    (given : Stepped) × GoesOn n s actor stepped.Nothing given after × (out ≡ printed after.world actor operation given)

-- The call of this actor, if one is pending, continues.
abbrev pub OneRuns : ScriptState → ℕ → Option Operation → List ℕ → ScriptState → Type 0
OneRuns s actor None out after = (out ≡ []) × (after ≡ s)
OneRuns s actor (Some operation) out after = StepsRun MAX_STEPS s actor (Some operation) out after

-- Of these actors, each whose call is pending continues it, in their order.
abbrev pub AllRun : List ℕ → ScriptState → List ℕ → ScriptState → Type 0
AllRun [] s out after = (out ≡ []) × (after ≡ s)
AllRun (actor ∷ actors) s out after =
    (mid : ScriptState) × (one : List ℕ) × (rest : List ℕ)
    × OneRuns s actor (pending (actor_at s.world.actors actor)) one mid × AllRun actors mid rest after
    × (out ≡ one ++ rest)

-- The script state after a line that is not skipped.
abbrev pub begun_script_state : ScriptState → ScriptState
begun_script_state s = record s { fresh = false }

-- The size of the pool is set before every other line that is not skipped.
abbrev pub PoolGiven : ScriptState → ℕ → Bool → ScriptState → Type 0
PoolGiven s blocks understood after =
    (understood ≡ s.fresh) × (after ≡ (if s.fresh then in_world (begun_script_state s) (opening_world blocks) else s))

-- What a line does and prints, if it is not the first to size the pool. The line is bad if it is a
-- preset that comes too late, or the size of the pool.
abbrev pub LineActs : ScriptState → Said → Bool → List ℕ → ScriptState → Type 0
LineActs s Nothing understood out after = (understood ≡ true) × (out ≡ []) × (after ≡ s)
LineActs s (GivesBlocks blocks) understood out after = (understood ≡ false) × (out ≡ []) × (after ≡ s)
LineActs s MakesPreset understood out after =
    Presets s.world understood after.world × (out ≡ []) × (after ≡ in_world s after.world)
LineActs s (GivesCred actor cred) understood out after =
    (understood ≡ true) × (out ≡ []) × (after ≡ record s { creds = with_cred s.creds actor cred })
LineActs s (GivesMoment moment) understood out after =
    (understood ≡ true) × (out ≡ []) × (after ≡ record s { moment = moment })
LineActs s (Starts actor asked goes) understood out after =
    (understood ≡ true) × StartRuns s actor asked goes (pending (actor_at s.world.actors actor)) out after
LineActs s (StepsOnce actor) understood out after =
    (understood ≡ true) × StepsRun 1 s actor (pending (actor_at s.world.actors actor)) out after
LineActs s (Continues actor) understood out after =
    (understood ≡ true) × StepsRun MAX_STEPS s actor (pending (actor_at s.world.actors actor)) out after
LineActs s AllContinue understood out after = (understood ≡ true) × AllRun (range_with_len 1 SCRIPT_ACTORS) s out after

-- What a line does and prints.
abbrev pub LineRuns : ScriptState → Said → Bool → List ℕ → ScriptState → Type 0
LineRuns s Nothing understood out after = LineActs s Nothing understood out after
LineRuns s (GivesBlocks blocks) understood out after = (out ≡ []) × PoolGiven s blocks understood after
LineRuns s said understood out after = LineActs (begun_script_state s) said understood out after
