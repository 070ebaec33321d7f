-- Every order of turns, with the calls that its passes made, is an execution. The run has the turns
-- of the order, in the same places, and the calls with their results. So the headline of threads
-- holds of them.
--
-- In the run each call is the only one of an actor of its own, and all calls start before the first
-- turn. This loses nothing. A call of an execution may read any released count at its start, and no
-- law of the headline depends on when a call started, or compares two calls of one actor. A pass
-- makes other calls after one that it left at a wait; an actor could not, because it is in that
-- call for good. The run keeps that a pass makes one call after the other: this decides which of
-- its calls made each turn. Which replies are legal does not depend on the caller of the turns
-- (this project's profile).
use Rattle.std.specs.Prelude.{◌≡◌, ℕ, suc, ◌==◌, true, List, [], ◌∷◌, ◌++◌, length, Option, Some, slice_get, All}
use Rattle.std.specs.Prelude.{filter, map, if◌then◌else◌}
use Rattle.sysv_model.specs.History.{Who, Actor}
use Rattle.sysv_model.specs.Turn.{Op, Turn, ops_of}
use Rattle.sysv_objects.specs.LegalOp.{AreLegal}
use Rattle.sysv_core.specs.World.{World, Opening, Invocation, Doing, Response, opening, doing_in}
use Rattle.sysv_core.specs.AnswerLaw.{endings_of, ended}
use Rattle.sysv_thread_laws.specs.Execution.{nobody, Moment, LeadsOnThreads}
use Rattle.sysv_thread_laws.specs.OnThreads.{ObeysOnThreads}
use Rattle.sysv_model.specs.Turns.{Numbered, turns_of}
use Rattle.sysv_thread_laws.specs.Order.{shows_row, Called, is_in_call_of, AreAll}

-- ---- the calls in the world

-- An opening with one actor for each call.
abbrev pub opening_for : (generation blocks : ℕ) → List Called → Opening
opening_for generation blocks calls =
    record { actors = length calls; blocks = blocks; first = 0; generation = generation }

-- The name of the call at that place of the list. Places count from 0, and actors from 1.
abbrev pub name_at : ℕ → Who
name_at place = Actor (suc place) place

-- The call at that place, as one that was started.
abbrev pub started_at : ℕ → Called → Invocation
started_at place c = record { who = name_at place; cred = c.cred; asked = c.asked; released = c.released }

-- The calls from that place on, as ones that were started.
abbrev pub all_started : ℕ → List Called → List Invocation
all_started place [] = []
all_started place (c ∷ cs) = started_at place c ∷ all_started (suc place) cs

-- What the actors of these calls do: the actor of a call that is over is idle, and that of any
-- other call is in it, in its state.
abbrev pub all_standing : ℕ → List Called → List (Option Doing)
all_standing place [] = []
all_standing place (c ∷ cs) = doing_in (started_at place c) c.state ∷ all_standing (suc place) cs

-- The call of this name made the turns of `c`. Its endings are those of the state of `c`: one if
-- that is over, else none.
pub record EndsAs (w : World) (responses : List Response) (who : Who) (c : Called) : Type 0 where
  pub ops : ops_of who w.turns ≡ c.ops
  pub answered : endings_of who responses ≡ ended c.state

-- ---- the turns in the world

-- A turn of the order, and the name of its caller in the world.
pub record Renamed : Type 0 where
  pub turn : Numbered
  pub name : Who

-- The turn of this caller with this operation.
abbrev pub turn_as : Who → Op → Turn
turn_as who op = record { who = who; op = op }

-- The turn in the world.
abbrev pub renamed_turn : Renamed → Turn
renamed_turn r = turn_as r.name r.turn.op

-- The turns of a pass in calls, by the order of all turns.
abbrev pub turns_by : ℕ → List Renamed → List Turn
turns_by number renamed = map renamed_turn (filter (λ (r : Renamed). is_in_call_of number r.turn) renamed)

-- The turns of a pass in calls, by its calls from that place of the list on, one after the other.
abbrev pub turns_in : ℕ → ℕ → List Called → List Turn
turns_in number place [] = []
turns_in number place (c ∷ cs) =
    (if c.by == number then map (turn_as (name_at place)) c.ops else []) ++ turns_in number (suc place) cs

-- The turns are those of the order, in the same places. A turn that reads a row belongs to no call.
-- Each other turn belongs to the call that made it, because the pass made the turns of its calls
-- one call after the other.
pub record HasTurnsOf (order : List Numbered) (calls : List Called) (turns : List Turn) : Type 0 where
  pub renamed : List Renamed
  pub in_order : map (λ (r : Renamed). r.turn) renamed ≡ order
  pub in_world : map renamed_turn renamed ≡ turns
  pub rows : All (λ (r : Renamed). shows_row r.turn.op ≡ true → r.name ≡ nobody) renamed
  pub whose : (number : ℕ) → turns_by number renamed ≡ turns_in number 0 calls

-- ---- the law

-- An execution that is the order with its calls.
pub record IsRunWith (generation blocks : ℕ) (order : List Numbered) (calls : List Called) : Type 0 where
  pub moments : List Moment
  pub responses : List Response
  pub world : World
  -- The moments lead from the opening to the world.
  pub leads : LeadsOnThreads (opening (opening_for generation blocks calls)) moments responses world
  -- The turns of the world are those of the order.
  pub turns : HasTurnsOf order calls world.turns
  -- The calls of the world are the calls, each with its turns and its result.
  pub started : world.calls ≡ all_started 0 calls
  pub each : (place : ℕ) (c : Called) → slice_get calls place ≡ Some c → EndsAs world responses (name_at place) c
  -- Each actor is in its call, in the state of that call, or is idle if the call is over.
  pub standing : world.actors ≡ all_standing 0 calls
  -- All laws of the headline of threads hold of the run.
  pub obeys : ObeysOnThreads (opening_for generation blocks calls) world responses

-- Every order of turns with legal replies, with the calls that its passes made, is an execution of
-- the world that is opened with that generation of identifiers and that number of blocks.
abbrev pub EveryOrderIsARun : Type 0
EveryOrderIsARun = (generation blocks : ℕ) (order : List Numbered) (calls : List Called) →
    AreLegal generation blocks (turns_of order) → AreAll order calls → IsRunWith generation blocks order calls
