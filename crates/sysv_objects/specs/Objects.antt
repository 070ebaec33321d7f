-- What the contracts see of the objects (this profile's): each slot by its number, the registry and
-- the pool.
use Rattle.std.specs.Prelude.{◌≡◌, ◌≢◌, ℕ, ◌≤◌, List, Some, slice_get, sum_by}
use Rattle.sysv_model.specs.History.{Call, Place, Take, Set, Remove}
use Rattle.sysv_model.specs.Pool.{PoolCall, Reserve, Release}
use Rattle.sysv_model.specs.Turn.{Op, AtSlot, AtRegistry, AtPool}
use Rattle.sysv_queue.specs.Slot.{Slot}
use Rattle.sysv_queue.specs.Blocks.{blocks_of}
use Rattle.sysv_keys.specs.State.{Registry}
use Rattle.sysv_pool.specs.State.{State as Pool}
use Rattle.sysv_objects.specs.declared.object.ObjectCall.{ObjectCall}
use Rattle.sysv_objects.specs.declared.object.ObjectCall.TheVariants as asked
use Rattle.sysv_objects.specs.SlotTurns.{slot_asked}

-- The state of the objects.
pub record Objects : Type 0 where
  pub slots : List Slot
  pub registry : Registry
  pub pool : Pool

-- No count of a slot is above the bound, nor is the released count.
abbrev pub CountsUpTo : ℕ → Objects → Type 0
CountsUpTo bound objects =
    ((number : ℕ) (slot : Slot) → slice_get objects.slots number ≡ Some slot →
    (slot.arrived ≤ bound) × (slot.freed ≤ bound)) × (objects.pool.released ≤ bound)

-- The most by which a call raises a count of a slot: one for a place, a take, a set and a removal,
-- otherwise none.
abbrev pub raises : Call → ℕ
raises (Place id cred mtype bytes now) = 1
raises (Take id cred selector size noerror now) = 1
raises (Set id cred to now) = 1
raises (Remove id cred) = 1
raises call = 0

-- The most by which a call raises the released count: one for a release.
abbrev pub pool_raises : PoolCall → ℕ
pool_raises (Reserve size) = 0
pool_raises (Release blocks) = 1

-- The most by which an operation raises a count of its object.
abbrev pub raises_by : Op → ℕ
raises_by (AtSlot slot call reply) = raises call
raises_by (AtRegistry call reply) = 0
raises_by (AtPool call reply) = pool_raises call

-- The objects that the request does not go to are unchanged.
abbrev pub OthersStay : ObjectCall → Objects → Objects → Type 0
OthersStay (asked.Slot call) old new =
    ((number : ℕ) → number ≢ slot_asked call → slice_get new.slots number ≡ slice_get old.slots number)
    × (new.registry ≡ old.registry) × (new.pool ≡ old.pool)
OthersStay (asked.Registry call) old new = (new.slots ≡ old.slots) × (new.pool ≡ old.pool)
OthersStay (asked.Pool call) old new = (new.slots ≡ old.slots) × (new.registry ≡ old.registry)

-- The number of blocks of all messages queued in these slots.
abbrev pub blocks_in : List Slot → ℕ
blocks_in slots = sum_by (λ (s : Slot). blocks_of s.messages) slots
