-- The code's data as the definitions': its events, its answers, and what a world of the code is
-- seen as (this project's profile).
use Rattle.std.specs.Prelude.{◌≡◌, ℕ, ◌<◌, ◌≤◌, Bool, List, [], ◌∷◌, Option, option_map, map}
use Rattle.sysv_model.specs.declared.limits.TheConstants.{WORN}
use Rattle.sysv_objects.specs.Objects.{Objects}
use Rattle.sysv_objects.specs.Represents.{Represents as ObjectsStandFor}
use Rattle.sysv_steps.specs.Call.{kind_of}
use Rattle.sysv_queue.specs.Tally.{Tallied}
use Rattle.sysv_core.specs.declared.event.Event.{Event}
use Rattle.sysv_core.specs.declared.event.Event.TheVariants as event
use Rattle.sysv_core.specs.declared.event.Answer.{Answer}
use Rattle.sysv_core.specs.declared.event.Stepped.{Stepped}
use Rattle.sysv_core.specs.declared.event.Stepped.TheVariants as stepped
use Rattle.sysv_core.specs.World.{World, Opening, Doing, Response, Transition, Start, Step, Makes, Presets, opening}
use Rattle.sysv_core.specs.Run.{Leads}
use Rattle.sysv_steps.specs.Asked.{asked_of}
use Rattle.sysv_steps.specs.Answered.{TellsEnding}
use Rattle.sysv_steps.specs.Kinds.{gives_back}
use Rattle.sysv_steps.specs.Pending.{Pending, pending}
use Rattle.sysv_core.specs.Kept.{states_kept}
use Rattle.sysv_core.specs.declared.actor.Doing.{Doing as DoingKept}
use Rattle.sysv_core.specs.Sound.{IsToCaller, IsSound}

-- ---- events

-- The transition of an event.
abbrev pub transition_of : Event → Transition
transition_of (event.Start actor cred asked) = Start actor cred (asked_of asked)
transition_of (event.Step actor now) = Step actor now

-- ---- answers

-- The answer is that of this ending, to the actor of the call.
pub record Tells (g : Response) (a : Answer) : Type 0 where
  pub caller : IsToCaller g.call.who a.actor
  pub ending : TellsEnding (gives_back (kind_of g.call.asked)) g.ending a.result a.body

-- The answers are those of the endings, in order.
abbrev pub TellAll : List Response → List Answer → Type 0
TellAll [] [] = Unit {0}
TellAll [] (a ∷ answers) = ⊥
TellAll (g ∷ responses) [] = ⊥
TellAll (g ∷ responses) (a ∷ answers) = Tells g a × TellAll responses answers

-- The result of a step of the code: nothing, an answer, or that the world is worn out.
abbrev pub Gives : World → List Response → Stepped → Type 0
Gives w responses stepped.Nothing = (w.steps < WORN) × (responses ≡ [])
Gives w responses stepped.Worn = (WORN ≤ w.steps) × (responses ≡ [])
Gives w responses (stepped.Answer answer) = (w.steps < WORN) × ((g : Response) × (responses ≡ g ∷ []) × Tells g answer)

-- One event in a world, with its result.
abbrev pub Steps : World → Event → Stepped → World → Type 0
Steps w event result after =
    (responses : List Response) × Makes w (transition_of event) responses after × Gives w responses result

-- ---- worlds

-- What a world of the code is seen as.
pub record Seen : Type 0 where
  pub objects : Objects
  pub doings : List (Option DoingKept)  -- the calls of the actors, as the code keeps them
  pub steps : ℕ
  pub tally : Tallied  -- the messages that were answered, as written

-- The state of the pending call, if there is one.
abbrev pub state_in : Option Doing → Option Pending
state_in doing = option_map (λ (d : Doing). pending d.state) doing

-- This world of the definitions is what the world of the code is seen as.
pub record IsSeenAs (w : World) (seen : Seen) : Type 0 where
  pub objects : ObjectsStandFor w.generation w.turns seen.objects
  pub states : map state_in w.actors ≡ states_kept seen.doings
  pub sound : IsSound w
  pub steps : w.steps ≡ seen.steps
  pub blocks : w.blocks ≡ seen.objects.pool.size

-- The world of the code is seen as some world.
abbrev pub IsSeen : Seen → Type 0
IsSeen seen = (w : World) × IsSeenAs w seen

-- What a preset makes of each world as which the code's world is seen.
abbrev pub PresetsSeen : Seen → Bool → Seen → Type 0
PresetsSeen old made new = (w : World) → IsSeenAs w old → (after : World) × Presets w made after × IsSeenAs after new

-- What an event makes of each world as which the code's world is seen.
abbrev pub StepsSeen : Seen → Event → Stepped → Seen → Type 0
StepsSeen old event result new =
    (w : World) → IsSeenAs w old → (after : World) × Steps w event result after × IsSeenAs after new

-- The list leads from this opening, with these endings, to a world as which the code's world is
-- seen.
pub record Represents (o : Opening) (list : List Transition) (responses : List Response) (seen : Seen) : Type 0 where
  pub world : World
  pub led : Leads (opening o) list responses world
  pub sight : IsSeenAs world seen

-- This is the number of blocks with which the world was opened, for every list of transitions for
-- which it stands.
abbrev pub AreAllFree : Seen → ℕ → Type 0
AreAllFree seen blocks =
    (o : Opening) (list : List Transition) (responses : List Response) → Represents o list responses seen →
    blocks ≡ o.blocks
