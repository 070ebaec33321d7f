-- What a seat learns from a read of a count, or from a wait for it, after Reed and Kanodia's read
-- and await of an eventcount. This project's profile.
use Rattle.std.specs.Prelude.{◌≡◌, ℕ, ◌<◌, ◌≤◌}
use Rattle.sysv_model.specs.Members.{SeesMore}
use Rattle.sysv_steps.specs.Resume.{Count, ArrivedOf, FreedOf, Settled, Released}
use Rattle.sysv_gate.specs.Gates.{Holding, marked, read_to, Learns}
use Rattle.sysv_gate.specs.declared.count.Count.{Count as OfObject}
use Rattle.sysv_gate.specs.declared.count.Count.TheVariants.{Arrived, Freed}
use Rattle.sysv_gate.specs.declared.awaited.Awaited.{Awaited}
use Rattle.sysv_gate.specs.declared.awaited.Awaited.TheVariants.{Reached, Worn}
use Rattle.sysv_bank.specs.Banks.{ChangesAt}
use Rattle.sysv_service.specs.Counts.{slot_counts}
use Rattle.sysv_service.specs.Counts.{registry_counts}
use Rattle.sysv_service.specs.Counts.{pool_counts}
use Rattle.sysv_service.specs.Seats.{Seats}

-- The value is at least what the seat knew of the count, and the seat knows the value afterwards.
abbrev pub Finds : {O C R : Type 0} → (O → ℕ × ℕ) → OfObject → ℕ → Holding O C R → Holding O C R → Type 0
Finds counted count value before after = (after ≡ read_to count value before) × Learns counted count before value

-- The seat at the object that has the count found this value, and nothing else was done at any
-- object.
abbrev pub Reads : Count → ℕ → Seats → Seats → Type 0
Reads (ArrivedOf slot) value before after =
    ChangesAt slot before.slots after.slots (Finds slot_counts Arrived value) × (after.registry ≡ before.registry)
    × (after.pool ≡ before.pool) × SeesMore before.member after.member
Reads (FreedOf slot) value before after =
    ChangesAt slot before.slots after.slots (Finds slot_counts Freed value) × (after.registry ≡ before.registry)
    × (after.pool ≡ before.pool) × SeesMore before.member after.member
Reads Settled value before after =
    Finds registry_counts Arrived value before.registry after.registry × (after.slots ≡ before.slots)
    × (after.pool ≡ before.pool) × SeesMore before.member after.member
Reads Released value before after =
    Finds pool_counts Arrived value before.pool after.pool × (after.slots ≡ before.slots)
    × (after.registry ≡ before.registry) × SeesMore before.member after.member

-- The seat found this value, and that the gate is worn out.
abbrev pub FindsAndGivesUp : {O C R : Type 0} → (O → ℕ × ℕ) → OfObject → ℕ → Holding O C R → Holding O C R → Type 0
FindsAndGivesUp counted count value before after =
    Learns counted count before value × (after ≡ marked (read_to count value before))

-- The seat at the object that has the count found this value and that the gate is worn out, and
-- nothing else was done at any object.
abbrev pub GivesUp : Count → ℕ → Seats → Seats → Type 0
GivesUp (ArrivedOf slot) value before after =
    ChangesAt slot before.slots after.slots (FindsAndGivesUp slot_counts Arrived value)
    × (after.registry ≡ before.registry) × (after.pool ≡ before.pool) × SeesMore before.member after.member
GivesUp (FreedOf slot) value before after =
    ChangesAt slot before.slots after.slots (FindsAndGivesUp slot_counts Freed value)
    × (after.registry ≡ before.registry) × (after.pool ≡ before.pool) × SeesMore before.member after.member
GivesUp Settled value before after =
    FindsAndGivesUp registry_counts Arrived value before.registry after.registry × (after.slots ≡ before.slots)
    × (after.pool ≡ before.pool) × SeesMore before.member after.member
GivesUp Released value before after =
    FindsAndGivesUp pool_counts Arrived value before.pool after.pool × (after.slots ≡ before.slots)
    × (after.registry ≡ before.registry) × SeesMore before.member after.member

-- A wait for the count ends with a value of at least the goal, or is given up at a worn gate: then
-- the value that was read last is below the goal.
abbrev pub Awaits : Count → ℕ → Seats → Awaited → Seats → Type 0
Awaits count goal before (Reached value) after = (goal ≤ value) × Reads count value before after
Awaits count goal before Worn after = (value : ℕ) × (value < goal) × GivesUp count value before after
