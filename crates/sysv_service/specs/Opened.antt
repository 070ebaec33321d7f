-- The state of gates when they are opened, and their first seats. This project's profile.
use Rattle.std.specs.Prelude.{◌≡◌, ℕ, List, [], length, map}
use Rattle.std.specs.List.{All}
use Rattle.sysv_model.specs.Members.{first_with}
use Rattle.sysv_keys.specs.declared.identifier.TheConstants.{SLOTS}
use Rattle.sysv_keys.specs.Represents.{Represents as RegistryRepresents}
use Rattle.sysv_pool.specs.Represents.{Represents as PoolRepresents}
use Rattle.sysv_queue.specs.Slot.{Slot}
use Rattle.sysv_queue.specs.Represents.{Represents as SlotRepresents}
use Rattle.sysv_gate.specs.Gates.{Gateway, opened}
use Rattle.sysv_service.specs.Seats.{Gates, Seats}

-- All slots of the profile are vacant, and the tickets of their gates begin at `first`.
abbrev pub AreVacant : ℕ → List (Gateway Slot) → Type 0
AreVacant first slots =
    (length slots ≡ SLOTS) × All (SlotRepresents []) (map (λ (g : Gateway Slot). g.opening) slots)
    × All (λ (g : Gateway Slot). g.first ≡ first) slots

-- Nothing has happened at the objects: the slots are vacant, the identifiers begin with this
-- generation, the pool has this number of blocks, and the tickets of all gates begin at `first`.
pub record AreOpen (generation blocks first : ℕ) (gates : Gates) : Type 0 where
  pub slots : AreVacant first gates.slots
  pub registry : RegistryRepresents generation [] gates.registry.opening × (gates.registry.first ≡ first)
  pub pool : PoolRepresents [] gates.pool.opening × (gates.pool.opening.size ≡ blocks) × (gates.pool.first ≡ first)

-- The first seats.
abbrev pub all_opened : Gates → Seats
all_opened gates = record {
  slots = map opened gates.slots;
  registry = opened gates.registry;
  pool = opened gates.pool;
  member = first_with 0;
}
