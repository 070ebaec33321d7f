-- What a handler over a service keeps (this project's profile).
use Rattle.std.specs.Prelude.{◌≡◌}
use Rattle.sysv_steps.specs.declared.clock.Clock.{Ghosts as ClockGhosts}
use Rattle.sysv_seats.specs.declared.handler.ServiceHandler.{ServiceHandler}

-- The handler has the same service and clock as before.
abbrev pub KeepsHandles : {C R : Type 0} {clock : ClockGhosts C} → ServiceHandler C R clock → ServiceHandler C R clock →
    Type 0
KeepsHandles old new = (new.service ≡ old.service) × (new.clock ≡ old.clock)
