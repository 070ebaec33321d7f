-- What contracts see of the objects behind gates: each represents some history and has counts that
-- only rise. This project's profile.
use Rattle.std.specs.Prelude.{ℕ}
use Rattle.sysv_model.specs.History.{History}
use Rattle.sysv_model.specs.Registry.{RegistryHistory}
use Rattle.sysv_model.specs.Pool.{PoolHistory}
use Rattle.sysv_queue.specs.Slot.{Slot}
use Rattle.sysv_queue.specs.Represents.{Represents as SlotRepresents}
use Rattle.sysv_keys.specs.State.{Registry}
use Rattle.sysv_keys.specs.Represents.{Represents as RegistryRepresents}
use Rattle.sysv_pool.specs.State.{State}
use Rattle.sysv_pool.specs.Represents.{Represents as PoolRepresents}

-- The slot represents some history.
abbrev pub SlotStands : Slot → Type 0
SlotStands slot = (h : History) × SlotRepresents h slot

-- The two counts of a slot: the arrived count and the freed count.
abbrev pub slot_counts : Slot → ℕ × ℕ
slot_counts slot = (slot.arrived, slot.freed)

-- The registry represents some history, from some generation on.
abbrev pub RegistryStands : Registry → Type 0
RegistryStands registry = (generation : ℕ) × (h : RegistryHistory) × RegistryRepresents generation h registry

-- The counts of the registry: the settled count, and 0, since there is no second count.
abbrev pub registry_counts : Registry → ℕ × ℕ
registry_counts registry = (registry.settled, 0)

-- The pool represents some history.
abbrev pub PoolStands : State → Type 0
PoolStands pool = (h : PoolHistory) × PoolRepresents h pool

-- The counts of the pool: the released count, and 0, since there is no second count.
abbrev pub pool_counts : State → ℕ × ℕ
pool_counts pool = (pool.released, 0)
