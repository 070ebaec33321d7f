-- The objects with which a bank is opened. Nothing has happened at them. This project's profile.
use Rattle.std.specs.Prelude.{◌≡◌, ℕ, List, [], ◌∷◌, length}
use Rattle.sysv_keys.specs.declared.identifier.TheConstants.{SLOTS}
use Rattle.sysv_keys.specs.Represents.{Represents as RegistryRepresents}
use Rattle.sysv_pool.specs.Represents.{Represents as PoolRepresents}
use Rattle.sysv_queue.specs.Represents.{Represents as SlotRepresents}
use Rattle.sysv_service.specs.declared.kinds.Gated.{Gated}
use Rattle.sysv_service.specs.Gated.{IsSlot, IsRegistry, IsPool, slot_in, registry_in, pool_in}

-- The objects are slots, and each is vacant.
abbrev pub AreVacantSlots : List Gated → Type 0
AreVacantSlots [] = Unit {0}
AreVacantSlots (s ∷ ss) = (IsSlot s × SlotRepresents [] (slot_in s)) × AreVacantSlots ss

-- A registry without rows, a pool of this number of blocks, and this number of vacant slots.
abbrev pub AreFreshUpTo : ℕ → ℕ → ℕ → List Gated → Type 0
AreFreshUpTo slots generation blocks [] = ⊥
AreFreshUpTo slots generation blocks (r ∷ []) = ⊥
AreFreshUpTo slots generation blocks (r ∷ p ∷ ss) =
    (IsRegistry r × RegistryRepresents generation [] (registry_in r))
    × (IsPool p × PoolRepresents [] (pool_in p) × ((pool_in p).size ≡ blocks)) × AreVacantSlots ss × (length ss ≡ slots)

-- The same with all the slots of the profile.
abbrev pub AreFresh : ℕ → ℕ → List Gated → Type 0
AreFresh generation blocks objects = AreFreshUpTo SLOTS generation blocks objects
