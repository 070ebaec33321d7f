-- A turn at a slot: how the code's requests and replies appear in the slot's history (this
-- profile's).
use Rattle.std.specs.Prelude.{◌≡◌, ◌<◌, ℕ, false, Ok, Err, [], ⊤}
use Rattle.sysv_model.specs.History.{Call, Install, Probe, Look, Place, Take, ReadStat, Set, Remove, ReadRow, Reply}
use Rattle.sysv_model.specs.History.{Installed, Shown}
use Rattle.sysv_pool.specs.Chain.{Chained}
use Rattle.sysv_queue.specs.Replies.{probe_reply, stat_reply, look_reply, place_reply, take_reply, set_reply}
use Rattle.sysv_queue.specs.Replies.{remove_reply}
use Rattle.sysv_queue.specs.Blocks.{blocks_of}
use Rattle.sysv_queue.specs.Slot.{Slot}
use Rattle.sysv_queue.specs.Represents.{MakesTurn}
use Rattle.sysv_keys.specs.declared.identifier.TheConstants.{SLOTS}
use Rattle.sysv_keys.specs.Identifier.{slot_of_id}
use Rattle.sysv_objects.specs.declared.slot.SlotCall.{SlotCall}
use Rattle.sysv_objects.specs.declared.slot.SlotCall.TheVariants as asked
use Rattle.sysv_objects.specs.declared.slot.SlotReply.{SlotReply}
use Rattle.sysv_objects.specs.declared.slot.SlotReply.TheVariants as told

-- The request in the slot's history.
abbrev pub slot_call : SlotCall → Call
slot_call (asked.Install id key cred mode now) = Install id key cred mode now
slot_call (asked.Probe id cred flags) = Probe id cred flags
slot_call (asked.Look id cred size) = Look id cred size
slot_call (asked.Place id cred mtype loaded now) = Place id cred mtype loaded.bytes now
slot_call (asked.Take id cred selector size noerror now) = Take id cred selector size noerror now
slot_call (asked.Stat id cred) = ReadStat id cred
slot_call (asked.Set id cred to now) = Set id cred to now
slot_call (asked.Remove id cred) = Remove id cred
slot_call (asked.Row slot) = ReadRow

-- The slot that a request goes to: the slot of its identifier, or the slot whose row it reads.
abbrev pub slot_asked : SlotCall → ℕ
slot_asked (asked.Install id key cred mode now) = slot_of_id id
slot_asked (asked.Probe id cred flags) = slot_of_id id
slot_asked (asked.Look id cred size) = slot_of_id id
slot_asked (asked.Place id cred mtype loaded now) = slot_of_id id
slot_asked (asked.Take id cred selector size noerror now) = slot_of_id id
slot_asked (asked.Stat id cred) = slot_of_id id
slot_asked (asked.Set id cred to now) = slot_of_id id
slot_asked (asked.Remove id cred) = slot_of_id id
slot_asked (asked.Row slot) = slot

-- The chain that a request hands over, or an empty one.
abbrev pub chain_handed : SlotCall → Chained
chain_handed (asked.Place id cred mtype loaded now) = loaded
chain_handed call = record { blocks = 0; bytes = [] }

-- The slot exists, if the request reads its row.
abbrev pub IsThere : SlotCall → Type 0
IsThere (asked.Row slot) = slot < SLOTS
IsThere call = ⊤

-- The reply in the slot's history. A removal discards the messages that are queued in the slot
-- before it.
abbrev pub slot_reply : Slot → SlotReply → Reply
slot_reply slot (told.Installed made) = Installed made
slot_reply slot (told.Probed found) = probe_reply found
slot_reply slot (told.Looked found) = look_reply found
slot_reply slot (told.Placed done) = place_reply done
slot_reply slot (told.Taken done) = take_reply done
slot_reply slot (told.Told done) = stat_reply done
slot_reply slot (told.Set done) = set_reply done
slot_reply slot (told.Removed done) = remove_reply slot.messages done
slot_reply slot (told.Shown row) = Shown row

-- The request may raise a count of the slot.
abbrev pub MayRaise : SlotCall → Type 0
MayRaise (asked.Place id cred mtype loaded now) = ⊤
MayRaise (asked.Take id cred selector size noerror now) = ⊤
MayRaise (asked.Set id cred to now) = ⊤
MayRaise (asked.Remove id cred) = ⊤
MayRaise call = ⊥

-- The reply fits the request: it is of the same kind, a refused place hands the chain back
-- unchanged, and a removal returns the blocks of the queued messages.
abbrev pub FitsSlotCall : Slot → SlotCall → SlotReply → Type 0
FitsSlotCall slot (asked.Install id key cred mode now) (told.Installed made) = ⊤
FitsSlotCall slot (asked.Probe id cred flags) (told.Probed found) = ⊤
FitsSlotCall slot (asked.Look id cred size) (told.Looked found) = ⊤
FitsSlotCall slot (asked.Place id cred mtype loaded now) (told.Placed (Ok number)) = ⊤
FitsSlotCall slot (asked.Place id cred mtype loaded now) (told.Placed (Err refused)) = refused.chain ≡ loaded
FitsSlotCall slot (asked.Take id cred selector size noerror now) (told.Taken done) = ⊤
FitsSlotCall slot (asked.Stat id cred) (told.Told done) = ⊤
FitsSlotCall slot (asked.Set id cred to now) (told.Set done) = ⊤
FitsSlotCall slot (asked.Remove id cred) (told.Removed (Ok discarded)) = discarded ≡ blocks_of slot.messages
FitsSlotCall slot (asked.Remove id cred) (told.Removed (Err why)) = ⊤
FitsSlotCall slot (asked.Row number) (told.Shown row) = ⊤
FitsSlotCall slot call reply = ⊥

-- The replies after which the slot is unchanged: the refusals, and the replies to requests that
-- only read.
abbrev pub LeavesSlot : SlotReply → Type 0
LeavesSlot (told.Installed made) = made ≡ false
LeavesSlot (told.Probed found) = ⊤
LeavesSlot (told.Looked found) = ⊤
LeavesSlot (told.Placed (Ok number)) = ⊥
LeavesSlot (told.Placed (Err refused)) = ⊤
LeavesSlot (told.Taken (Ok taken)) = ⊥
LeavesSlot (told.Taken (Err refused)) = ⊤
LeavesSlot (told.Told done) = ⊤
LeavesSlot (told.Set (Ok done)) = ⊥
LeavesSlot (told.Set (Err why)) = ⊤
LeavesSlot (told.Removed (Ok discarded)) = ⊥
LeavesSlot (told.Removed (Err why)) = ⊤
LeavesSlot (told.Shown row) = ⊤

-- The slot makes the turn, and the reply fits.
pub record SlotMoves (before : Slot) (call : SlotCall) (reply : SlotReply) (after : Slot) : Type 0 where
  pub turn : MakesTurn before (slot_call call) (slot_reply before reply) after
  pub fits : FitsSlotCall before call reply
  pub leaves : LeavesSlot reply → after ≡ before
