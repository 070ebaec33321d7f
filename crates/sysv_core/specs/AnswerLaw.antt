-- The law of the answers. Each call that was started plays its own turns: the step table, taken
-- along them from the start of the call, leads to the state of the call. A call that is over has
-- one ending, the one of that state, and no actor is in it. A call that is not over has no ending,
-- and its actor is in it in that state. An actor is in no other call. Each turn is made by a call
-- that was started, and requests what the arguments of that call name, or is one of the three turns
-- of a preset (POSIX.1-2017, msgsnd and msgrcv, RETURN VALUE and ERRORS; the steps are this
-- project's profile).
use Rattle.std.specs.Prelude.{◌≡◌, ◌⊎◌, ℕ, suc, List, [], ◌∷◌, Option, Some, None, Contains, filter, map, slice_get}
use Rattle.std.specs.Prelude.{if◌then◌else◌}
use Rattle.sysv_model.specs.History.{Who, Actor, Seat}
use Rattle.sysv_model.specs.Turn.{Turn, is_same, ops_of}
use Rattle.sysv_steps.specs.Call.{Kind, kind_of}
use Rattle.sysv_steps.specs.State.{Ending, State, Goes, Waits, Over}
use Rattle.sysv_steps.specs.Played.{Plays}
use Rattle.sysv_steps.specs.AsksFor.{AllAskFor}
use Rattle.sysv_core.specs.World.{World, Invocation, Doing, Response, actor_at, doing_in, begun, preset_who}
use Rattle.sysv_core.specs.World.{preset_begin, preset_install, preset_settle}

-- The endings of the calls of this name, in order.
abbrev pub endings_of : Who → List Response → List Ending
endings_of who responses =
    map (λ (g : Response). g.ending) (filter (λ (g : Response). is_same who g.call.who) responses)

-- The call of this name that an actor is in, with its state, if it is in that call.
abbrev pub stands_in : Who → Option (Option Doing) → Option Doing
stands_in who None = None
stands_in who (Some None) = None
stands_in who (Some (Some doing)) = if is_same who doing.call.who then Some doing else None

-- The call of this name with its state, if its actor is in it.
abbrev pub standing_of : Who → List (Option Doing) → Option Doing
standing_of (Actor actor start) actors = stands_in (Actor actor start) (actor_at actors actor)
standing_of (Seat number) actors = None

-- The endings of a call in this state: one if it is over, else none.
abbrev pub ended : {kind : Kind} → State kind → List Ending
ended (Goes phase) = []
ended (Waits wait) = []
ended (Over ending) = ending ∷ []

-- The call plays its own turns to a state; its endings are those of that state; and its actor is in
-- it in that state, or is not in it if the call is over.
pub record Outcome (w : World) (responses : List Response) (call : Invocation) : Type 0 where
  pub state : State (kind_of call.asked)
  pub plays : Plays (begun call) (ops_of call.who w.turns) state
  pub answered : endings_of call.who responses ≡ ended state
  pub stands : standing_of call.who w.actors ≡ doing_in call state

-- Each actor that is in a call is in one that it started. Actors count from 1.
abbrev pub AreInTheirCalls : World → Type 0
AreInTheirCalls w = (place : ℕ) (d : Doing) → slice_get w.actors place ≡ Some (Some d) →
    Contains w.calls d.call × ((start : ℕ) × (d.call.who ≡ Actor (suc place) start))

-- The turn is one of the three of a preset.
abbrev pub IsOfPreset : Turn → Type 0
IsOfPreset t = (t.who ≡ preset_who) × ((t.op ≡ preset_begin) ⊎ (t.op ≡ preset_install) ⊎ (t.op ≡ preset_settle))

-- The turn is one of a preset, or it is made by a call that was started.
abbrev pub IsMade : List Invocation → Turn → Type 0
IsMade calls t = IsOfPreset t ⊎ ((call : Invocation) × Contains calls call × (t.who ≡ call.who))

-- Each turn of the call requests, under the call's credentials, what its arguments name, and
-- nothing else.
abbrev pub AsksAsItWasAsked : World → Invocation → Type 0
AsksAsItWasAsked w call = AllAskFor call.cred call.asked (ops_of call.who w.turns)
