-- The gates that a pass has found worn out. A seat that finds its gate worn out is marked. So is
-- each seat that is split off from a marked seat, and each seat that a marked seat is joined into.
-- This project's profile.
use Rattle.std.specs.Prelude.{◌≡◌, false}
use Rattle.std.specs.List.{AllByRecursion}
use Rattle.sysv_service.specs.Seats.{SlotSeat, Seats}

-- None of the seats is marked.
pub record IsUnmarked (seats : Seats) : Type 0 where
  pub slots : AllByRecursion (λ (seat : SlotSeat). seat.worn ≡ false) seats.slots
  pub registry : seats.registry.worn ≡ false
  pub pool : seats.pool.worn ≡ false
