-- What holds of every world to which a run leads from an opening (this project's profile): its
-- turns are legal, its actors are in calls of their own, a queue is installed only under an
-- identifier that the registry made, and each block of the pool is free, under a queued message, or
-- held by a call.
use Rattle.std.specs.Prelude.{◌≡◌, ℕ, suc, ℤ, true, List, Option, Some, slice_get}
use Rattle.sysv_model.specs.declared.attributes.Attributes.{Attributes}
use Rattle.sysv_model.specs.History.{Who, Actor, Seat}
use Rattle.sysv_model.specs.Live.{live}
use Rattle.sysv_model.specs.Turn.{Turn, slot_history, registry_history}
use Rattle.sysv_keys.specs.Identifier.{slot_of_id}
use Rattle.sysv_keys.specs.Rows.{is_made}
use Rattle.sysv_objects.specs.LegalOp.{AreLegal}
use Rattle.sysv_steps.specs.Call.{Kind}
use Rattle.sysv_steps.specs.State.{AtInstall, State, Goes}
use Rattle.sysv_steps.specs.HeldBlocks.{HasItsBlocks}
use Rattle.sysv_core.specs.World.{World, Opening, Doing, Transition, Response, Makes, opening}
use Rattle.sysv_core.specs.Conserved.{AreConserved}

-- The caller is this actor.
abbrev pub IsToCaller : Who → ℕ → Type 0
IsToCaller (Actor actor start) other = other ≡ actor
IsToCaller (Seat number) other = ⊥

-- Each actor that is in a call is in one of its own. Before the place of a body it holds the number
-- of blocks that the body needs.
abbrev pub AreOwn : List (Option Doing) → Type 0
AreOwn actors = (place : ℕ) (d : Doing) → slice_get actors place ≡ Some (Some d) →
    IsToCaller d.call.who (suc place) × HasItsBlocks d.state

-- The call is before the install of this identifier.
abbrev pub IsBeforeInstall : {kind : Kind} → State kind → ℤ → Type 0
IsBeforeInstall (Goes (AtInstall get made)) id = made ≡ id
IsBeforeInstall state id = ⊥

-- The registry made an identifier of this slot.
pub record IsMadeIn (turns : List Turn) (slot : ℕ) : Type 0 where
  pub id : ℤ
  pub key : ℤ
  pub made : is_made id key (registry_history turns) ≡ true
  pub here : slot_of_id id ≡ slot

-- The world is as runs leave it.
pub record IsSound (w : World) : Type 0 where
  pub legal : AreLegal w.generation w.blocks w.turns
  pub own : AreOwn w.actors
  -- An identifier of the slot was made if an actor is before an install in that slot, or if a queue
  -- is live in it.
  pub installs : (place : ℕ) (d : Doing) (id : ℤ) → slice_get w.actors place ≡ Some (Some d) →
      IsBeforeInstall d.state id → IsMadeIn w.turns (slot_of_id id)
  pub lives : (slot : ℕ) (a : Attributes) → live (slot_history slot w.turns) ≡ Some a → IsMadeIn w.turns slot
  pub blocks : AreConserved w.blocks w.turns w.actors

-- A world in which nothing has happened is sound.
abbrev pub OpensSound : Type 0
OpensSound = (o : Opening) → IsSound (opening o)

-- Each transition leads from a sound world only to sound worlds.
abbrev pub StaysSound : Type 0
StaysSound = (w after : World) (x : Transition) (responses : List Response) → IsSound w → Makes w x responses after →
    IsSound after
