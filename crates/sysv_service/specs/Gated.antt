-- The slots, the registry and the pool as objects of one bank: what their turns are, and how
-- contracts see each kind by itself. This project's profile.
use Rattle.std.specs.Prelude.{ℕ, ◌+◌, pos, true, None, [], ⊤}
use Rattle.sysv_queue.specs.Slot.{Slot}
use Rattle.sysv_keys.specs.State.{Registry}
use Rattle.sysv_pool.specs.State.{State}
use Rattle.sysv_objects.specs.declared.slot.SlotCall.{SlotCall}
use Rattle.sysv_objects.specs.declared.slot.SlotCall.TheVariants.{Row}
use Rattle.sysv_objects.specs.declared.slot.SlotReply.{SlotReply}
use Rattle.sysv_objects.specs.declared.slot.SlotReply.TheVariants.{Shown}
use Rattle.sysv_objects.specs.declared.registry.RegistryCall.{RegistryCall}
use Rattle.sysv_objects.specs.declared.registry.RegistryCall.TheVariants.{Settle}
use Rattle.sysv_objects.specs.declared.registry.RegistryReply.{RegistryReply}
use Rattle.sysv_objects.specs.declared.registry.RegistryReply.TheVariants.{Changed}
use Rattle.sysv_objects.specs.declared.pool.PoolCall.{PoolCall}
use Rattle.sysv_objects.specs.declared.pool.PoolCall.TheVariants.{Reserve}
use Rattle.sysv_objects.specs.declared.pool.PoolReply.{PoolReply}
use Rattle.sysv_objects.specs.declared.pool.PoolReply.TheVariants.{Reserved}
use Rattle.sysv_service.specs.declared.kinds.Gated.{Gated}
use Rattle.sysv_service.specs.declared.kinds.Gated.TheVariants as gated
use Rattle.sysv_objects.specs.declared.object.ObjectCall.{ObjectCall}
use Rattle.sysv_objects.specs.declared.object.ObjectCall.TheVariants as asked
use Rattle.sysv_objects.specs.declared.object.ObjectReply.{ObjectReply}
use Rattle.sysv_objects.specs.declared.object.ObjectReply.TheVariants as told
use Rattle.sysv_objects.specs.SlotTurns.{slot_asked, SlotMoves}
use Rattle.sysv_service.specs.Counts.{SlotStands, slot_counts}
use Rattle.sysv_objects.specs.RegistryTurns.{RegistryMoves}
use Rattle.sysv_service.specs.Counts.{RegistryStands, registry_counts}
use Rattle.sysv_objects.specs.PoolTurns.{PoolMoves}
use Rattle.sysv_service.specs.Counts.{PoolStands, pool_counts}
use Rattle.sysv_service.specs.ObjectKinds.{Kind}

-- ---- the kind of an object

-- The object is a slot.
abbrev pub IsSlot : Gated → Type 0
IsSlot (gated.Slot slot) = ⊤
IsSlot (gated.Registry registry) = ⊥
IsSlot (gated.Pool pool) = ⊥

-- The object is the registry.
abbrev pub IsRegistry : Gated → Type 0
IsRegistry (gated.Slot slot) = ⊥
IsRegistry (gated.Registry registry) = ⊤
IsRegistry (gated.Pool pool) = ⊥

-- The object is the pool.
abbrev pub IsPool : Gated → Type 0
IsPool (gated.Slot slot) = ⊥
IsPool (gated.Registry registry) = ⊥
IsPool (gated.Pool pool) = ⊤

-- ---- one kind by itself
--
-- A value of another kind is seen as some value of this kind. Nothing is stated of it.

-- The object, as a slot.
abbrev pub slot_in : Gated → Slot
slot_in (gated.Slot slot) = slot
slot_in (gated.Registry registry) = record { live = None; messages = []; arrived = 0; freed = 0 }
slot_in (gated.Pool pool) = record { live = None; messages = []; arrived = 0; freed = 0 }

-- The call, as one of a slot.
abbrev pub slot_call_in : ObjectCall → SlotCall
slot_call_in (asked.Slot call) = call
slot_call_in (asked.Registry call) = Row 0
slot_call_in (asked.Pool call) = Row 0

-- The reply, as one of a slot.
abbrev pub slot_reply_in : ObjectReply → SlotReply
slot_reply_in (told.Slot reply) = reply
slot_reply_in (told.Registry reply) = Shown None
slot_reply_in (told.Pool reply) = Shown None

-- The object, as the registry.
abbrev pub registry_in : Gated → Registry
registry_in (gated.Slot slot) = record { places = []; settled = 0 }
registry_in (gated.Registry registry) = registry
registry_in (gated.Pool pool) = record { places = []; settled = 0 }

-- The call, as one of the registry.
abbrev pub registry_call_in : ObjectCall → RegistryCall
registry_call_in (asked.Slot call) = Settle (pos 0)
registry_call_in (asked.Registry call) = call
registry_call_in (asked.Pool call) = Settle (pos 0)

-- The reply, as one of the registry.
abbrev pub registry_reply_in : ObjectReply → RegistryReply
registry_reply_in (told.Slot reply) = Changed true
registry_reply_in (told.Registry reply) = reply
registry_reply_in (told.Pool reply) = Changed true

-- The object, as the pool.
abbrev pub pool_in : Gated → State
pool_in (gated.Slot slot) = record { size = 0; free = 0; released = 0 }
pool_in (gated.Registry registry) = record { size = 0; free = 0; released = 0 }
pool_in (gated.Pool pool) = pool

-- The call, as one of the pool.
abbrev pub pool_call_in : ObjectCall → PoolCall
pool_call_in (asked.Slot call) = Reserve 0
pool_call_in (asked.Registry call) = Reserve 0
pool_call_in (asked.Pool call) = call

-- The reply, as one of the pool.
abbrev pub pool_reply_in : ObjectReply → PoolReply
pool_reply_in (told.Slot reply) = Reserved None
pool_reply_in (told.Registry reply) = Reserved None
pool_reply_in (told.Pool reply) = reply

-- The slots, as a kind.
abbrev pub as_slot : Kind Gated ObjectCall ObjectReply Slot SlotCall SlotReply
as_slot = record { object = slot_in; call = slot_call_in; reply = slot_reply_in }

-- The registry, as a kind.
abbrev pub as_registry : Kind Gated ObjectCall ObjectReply Registry RegistryCall RegistryReply
as_registry = record { object = registry_in; call = registry_call_in; reply = registry_reply_in }

-- The pool, as a kind.
abbrev pub as_pool : Kind Gated ObjectCall ObjectReply State PoolCall PoolReply
as_pool = record { object = pool_in; call = pool_call_in; reply = pool_reply_in }

-- ---- turns

-- The object represents some history of its kind.
abbrev pub Stands : Gated → Type 0
Stands (gated.Slot slot) = SlotStands slot
Stands (gated.Registry registry) = RegistryStands registry
Stands (gated.Pool pool) = PoolStands pool

-- An object accepts the calls of its own kind.
abbrev pub Accepts : Gated → ObjectCall → Type 0
Accepts object (asked.Slot call) = IsSlot object
Accepts object (asked.Registry call) = IsRegistry object
Accepts object (asked.Pool call) = IsPool object

-- The call and the reply are of one kind, and an object of that kind makes the turn and stays of
-- that kind.
abbrev pub makes : ObjectCall → ObjectReply → Gated → Gated → Type 0
makes (asked.Slot call) (told.Slot reply) before after =
    IsSlot before × IsSlot after × SlotMoves (slot_in before) call reply (slot_in after)
makes (asked.Registry call) (told.Registry reply) before after =
    IsRegistry before × IsRegistry after × RegistryMoves (registry_in before) call reply (registry_in after)
makes (asked.Pool call) (told.Pool reply) before after =
    IsPool before × IsPool after × PoolMoves (pool_in before) call reply (pool_in after)
makes call reply before after = ⊥

-- The meaning of the objects' calls.
abbrev pub GatedMoves : Gated → ObjectCall → ObjectReply → Gated → Type 0
GatedMoves before call reply after = makes call reply before after

-- The two counts of an object, by its kind.
abbrev pub gated_counts : Gated → ℕ × ℕ
gated_counts (gated.Slot slot) = slot_counts slot
gated_counts (gated.Registry registry) = registry_counts registry
gated_counts (gated.Pool pool) = pool_counts pool

-- The place in the bank of the object that is called.
abbrev pub place_of : ObjectCall → ℕ
place_of (asked.Slot call) = slot_asked call + 2
place_of (asked.Registry call) = 0
place_of (asked.Pool call) = 1
