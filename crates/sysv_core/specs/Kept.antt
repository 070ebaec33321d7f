-- What a world of the code keeps of its actors, as states of the definitions (this project's
-- profile).
use Rattle.std.specs.Prelude.{ℕ, Bool, List, Option, Some, None, option_map, map, sum_by, if◌then◌else◌}
use Rattle.sysv_steps.specs.HeldBlocks.{held}
use Rattle.sysv_core.specs.declared.actor.Doing.{Doing}
use Rattle.sysv_core.specs.declared.actor.Led.{Led}
use Rattle.sysv_core.specs.declared.actor.Led.TheVariants as led
use Rattle.sysv_core.specs.declared.event.Stepped.{Stepped}
use Rattle.sysv_core.specs.declared.event.Stepped.TheVariants as stepped
use Rattle.sysv_steps.specs.Pending.{Pending}
use Rattle.sysv_core.specs.Standing.{of_state, doing_state}

-- The state of the call that an actor is in, if it is in one.
abbrev pub state_kept : Option Doing → Option Pending
state_kept doing = option_map doing_state doing

-- The states of the calls of all actors.
abbrev pub states_kept : List (Option Doing) → List (Option Pending)
states_kept actors = map state_kept actors

-- The number of blocks that this pending call holds.
abbrev pub blocks_held_by : Doing → ℕ
blocks_held_by doing = of_state (λ kind state. held state) doing

-- The number of blocks that the actor's call holds.
abbrev pub blocks_kept_by : Option Doing → ℕ
blocks_kept_by None = 0
blocks_kept_by (Some doing) = blocks_held_by doing

-- The number of blocks that the calls of these actors hold.
abbrev pub blocks_kept : List (Option Doing) → ℕ
blocks_kept actors = sum_by blocks_kept_by actors

-- What is kept of a call after a start or a step: nothing if it is over.
abbrev pub doing_led : Led → Option Doing
doing_led (led.To doing) = Some doing
doing_led (led.Stays doing) = Some doing
doing_led (led.Over ended body) = None

-- The same, as a state of the definitions.
abbrev pub kept_led : Led → Option Pending
kept_led l = state_kept (doing_led l)

-- The number of steps that are counted: none if the call still has to wait.
abbrev pub counted_led : Led → ℕ
counted_led (led.To doing) = 1
counted_led (led.Stays doing) = 0
counted_led (led.Over ended body) = 1

-- The body of the call that the answer returns: that of a receive.
abbrev pub returned : Bool → Option (List ℕ) → Option (List ℕ)
returned receives body = if receives then body else None

-- What a start or a step of the actor's call returns.
abbrev pub told_by : ℕ → Led → Stepped
told_by actor (led.To doing) = stepped.Nothing
told_by actor (led.Stays doing) = stepped.Nothing
told_by actor (led.Over ended body) = stepped.Answer record {
  actor = actor;
  result = ended.outcome;
  body = returned ended.receives body;
}
