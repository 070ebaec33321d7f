-- A turn at any of the objects, made at the objects themselves or with a seat at their gates (this
-- profile's).
use Rattle.std.specs.Prelude.{[], ⊤}
use Rattle.sysv_model.specs.Turn.{Ask, OfSlot, OfRegistry, OfPool, Op, AtSlot, AtRegistry, AtPool}
use Rattle.sysv_queue.specs.Slot.{Slot}
use Rattle.sysv_objects.specs.declared.pool.PoolCall.TheVariants.{Reserve, Release}
use Rattle.sysv_objects.specs.declared.object.ObjectCall.{ObjectCall}
use Rattle.sysv_objects.specs.declared.object.ObjectCall.TheVariants as asked
use Rattle.sysv_objects.specs.declared.object.ObjectReply.{ObjectReply}
use Rattle.sysv_objects.specs.declared.object.ObjectReply.TheVariants as told
use Rattle.sysv_pool.specs.Chain.{Chained}
use Rattle.sysv_objects.specs.SlotTurns.{IsThere, MayRaise, chain_handed, slot_asked, slot_call, slot_reply}
use Rattle.sysv_objects.specs.SlotTurns.{FitsSlotCall, LeavesSlot}
use Rattle.sysv_objects.specs.RegistryTurns.{registry_call, registry_reply, FitsRegistryCall, LeavesRegistry}
use Rattle.sysv_objects.specs.PoolTurns.{MayRelease, pool_call, pool_reply, FitsPoolCall, LeavesPool}

-- The request, and the object that it goes to.
abbrev pub ask_of_call : ObjectCall → Ask
ask_of_call (asked.Slot call) = OfSlot (slot_asked call) (slot_call call)
ask_of_call (asked.Registry call) = OfRegistry (registry_call call)
ask_of_call (asked.Pool call) = OfPool (pool_call call)

-- A request for a row goes to a slot that exists.
abbrev pub IsOfSomeSlot : ObjectCall → Type 0
IsOfSomeSlot (asked.Slot call) = IsThere call
IsOfSomeSlot (asked.Registry call) = ⊤
IsOfSomeSlot (asked.Pool call) = ⊤

-- The chain that the request hands over, or an empty one.
abbrev pub chain_asked : ObjectCall → Chained
chain_asked (asked.Slot call) = chain_handed call
chain_asked (asked.Registry call) = record { blocks = 0; bytes = [] }
chain_asked (asked.Pool (Reserve size)) = record { blocks = 0; bytes = [] }
chain_asked (asked.Pool (Release chain)) = chain

-- The request may raise a count of its object.
abbrev pub MayCount : ObjectCall → Type 0
MayCount (asked.Slot call) = MayRaise call
MayCount (asked.Registry call) = ⊥
MayCount (asked.Pool call) = MayRelease call

-- The replies after which the object is unchanged: the refusals, and the replies to requests that
-- only read.
abbrev pub LeavesObject : ObjectReply → Type 0
LeavesObject (told.Slot reply) = LeavesSlot reply
LeavesObject (told.Registry reply) = LeavesRegistry reply
LeavesObject (told.Pool reply) = LeavesPool reply

-- The turn was made, if `takes` states which turns are made, and the reply fits the request. The
-- reply of a slot depends on the slot before the turn, whose messages a removal discards.
abbrev pub Takes : {P : Type 0} → (P → Op → P → Type 0) → P → ObjectCall → ObjectReply → P → Type 0
Takes takes before (asked.Slot call) (told.Slot reply) after =
    (slot : Slot) × takes before (AtSlot (slot_asked call) (slot_call call) (slot_reply slot reply)) after
    × FitsSlotCall slot call reply
Takes takes before (asked.Registry call) (told.Registry reply) after =
    takes before (AtRegistry (registry_call call) (registry_reply reply)) after × FitsRegistryCall call reply
Takes takes before (asked.Pool call) (told.Pool reply) after =
    takes before (AtPool (pool_call call) (pool_reply reply)) after × FitsPoolCall call reply
Takes takes before call reply after = ⊥
