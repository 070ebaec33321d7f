-- The pending call of an actor, as the code keeps it (this project's profile): the step before
-- which the call is, or its wait; none if the actor is idle or does not exist. Actors count from 1.
use Rattle.std.specs.Prelude.{◌≡◌, ℕ, zero, suc, List, Option, Some, None, slice_get, option_map, ⊤}
use Rattle.sysv_steps.specs.Call.{Kind}
use Rattle.sysv_steps.specs.State.{State}
use Rattle.sysv_steps.specs.Pending.{Pending, pending, text_in, pending_kind, pending_state}
use Rattle.sysv_core.specs.declared.actor.Doing.{Doing}

-- What a function of the state of a call makes of a pending call.
abbrev pub of_state {ℓ} : {A : Type ℓ} → ((kind : Kind) → State kind → A) → Doing → A
of_state f doing = f (pending_kind doing.pending) (pending_state doing.pending (text_in doing.body))

-- The state of a pending call.
abbrev pub doing_state : Doing → Pending
doing_state doing = of_state (λ kind state. pending state) doing

-- The state of the actor's call, if there is such an actor and it is in a call.
abbrev pub state_at : List (Option Doing) → ℕ → Option (Option Pending)
state_at doings zero = None
state_at doings (suc place) = option_map (λ d. option_map doing_state d) (slice_get doings place)

-- The actor is in this call.
abbrev pub StandsThere : Option (Option Pending) → Doing → Type 0
StandsThere (Some (Some state)) doing = state ≡ doing_state doing
StandsThere (Some None) doing = ⊥
StandsThere None doing = ⊥

-- The actor is idle or does not exist.
abbrev pub StandsNowhere : Option (Option Pending) → Type 0
StandsNowhere None = ⊤
StandsNowhere (Some None) = ⊤
StandsNowhere (Some (Some state)) = ⊥
