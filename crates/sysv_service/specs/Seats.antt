-- What contracts see of the gates of all objects and of a seat at each of them, and what a turn of
-- a seat's own is. This project's profile.
use Rattle.std.specs.Prelude.{◌≡◌, ℕ, ◌+◌, ◌≤◌, false, List, [], ◌∷◌, ◌++◌}
use mathlib.Core.Option.{some}
use lib.ListN.{get_elem?}
use Rattle.sysv_model.specs.History.{Seat, Entry, History, arrived, freed}
use Rattle.sysv_model.specs.Registry.{RegistryEntry, RegistryHistory, settled}
use Rattle.sysv_model.specs.Pool.{PoolEntry, PoolHistory, released}
use Rattle.sysv_model.specs.Turn.{Ask, OfSlot, OfRegistry, OfPool, Op, AtSlot, AtRegistry, AtPool, slot_history}
use Rattle.sysv_model.specs.Turn.{registry_history, pool_history}
use Rattle.sysv_model.specs.Turns.{turns_of}
use Rattle.sysv_model.specs.Members.{Member, SeesMore, MakesTurn}
use Rattle.sysv_queue.specs.Slot.{Slot}
use Rattle.sysv_queue.specs.Represents.{Represents as SlotRepresents}
use Rattle.sysv_keys.specs.State.{Registry}
use Rattle.sysv_keys.specs.Represents.{Represents as RegistryRepresents}
use Rattle.sysv_pool.specs.State.{State}
use Rattle.sysv_pool.specs.Represents.{Represents as PoolRepresents}
use Rattle.sysv_gate.specs.declared.table.view.Turn.{Turn}
use Rattle.sysv_gate.specs.History.{Moves, after_all}
use Rattle.sysv_gate.specs.Gates.{Gateway, Holding, Answers, marked}
use Rattle.sysv_bank.specs.Banks.{gates_of, ChangesAt}
use Rattle.sysv_objects.specs.declared.slot.SlotCall.{SlotCall}
use Rattle.sysv_objects.specs.declared.slot.SlotReply.{SlotReply}
use Rattle.sysv_objects.specs.declared.registry.RegistryCall.{RegistryCall}
use Rattle.sysv_objects.specs.declared.registry.RegistryReply.{RegistryReply}
use Rattle.sysv_objects.specs.declared.pool.PoolCall.{PoolCall}
use Rattle.sysv_objects.specs.declared.pool.PoolReply.{PoolReply}
use Rattle.sysv_objects.specs.SlotTurns.{slot_call, slot_reply, SlotMoves}
use Rattle.sysv_service.specs.Counts.{slot_counts}
use Rattle.sysv_objects.specs.RegistryTurns.{registry_call, registry_reply, RegistryMoves}
use Rattle.sysv_service.specs.Counts.{registry_counts}
use Rattle.sysv_objects.specs.PoolTurns.{pool_call, pool_reply, PoolMoves}
use Rattle.sysv_service.specs.Counts.{pool_counts}

-- ---- the seats

-- What contracts see of a seat at a slot.
abbrev pub SlotSeat : Type 0
SlotSeat = Holding Slot SlotCall SlotReply

-- What contracts see of a seat at the registry.
abbrev pub RegistrySeat : Type 0
RegistrySeat = Holding Registry RegistryCall RegistryReply

-- What contracts see of a seat at the pool.
abbrev pub PoolSeat : Type 0
PoolSeat = Holding State PoolCall PoolReply

-- The gates of the slots, in the order of their numbers, of the registry and of the pool.
pub record Gates : Type 0 where
  pub slots : List (Gateway Slot)
  pub registry : Gateway Registry
  pub pool : Gateway State

-- A seat at each gate, and what the seats together have seen and done, as one member of a team.
pub record Seats : Type 0 where
  pub slots : List SlotSeat
  pub registry : RegistrySeat
  pub pool : PoolSeat
  pub member : Member

-- The seats belong to these gates.
pub record AreOf (gates : Gates) (seats : Seats) : Type 0 where
  pub slots : gates_of seats.slots ≡ gates.slots
  pub registry : seats.registry.gate ≡ gates.registry
  pub pool : seats.pool.gate ≡ gates.pool

-- ---- the histories that a seat has seen

-- The entries of the turns, from the object before the first of them on.
abbrev pub entries : {O C R E : Type 0} → (O → Turn O C R → E) → O → List (Turn O C R) → List E
entries entry before [] = []
entries entry before (t ∷ ts) = entry before t ∷ entries entry t.after ts

-- The entry of a turn at a slot, if the slot before it was `before`.
abbrev pub slot_entry : Slot → Turn Slot SlotCall SlotReply → Entry
slot_entry before t = record { who = Seat t.by; call = slot_call t.call; reply = slot_reply before t.reply }

-- The entry of a turn at the registry.
abbrev pub registry_entry : Registry → Turn Registry RegistryCall RegistryReply → RegistryEntry
registry_entry before t = record { who = Seat t.by; call = registry_call t.call; reply = registry_reply t.reply }

-- The entry of a turn at the pool.
abbrev pub pool_entry : State → Turn State PoolCall PoolReply → PoolEntry
pool_entry before t = record { who = Seat t.by; call = pool_call t.call; reply = pool_reply t.reply }

-- The history of the slot that the seat has seen.
abbrev pub slot_seen : SlotSeat → History
slot_seen seat = entries slot_entry seat.gate.opening seat.seen

-- The history of the registry that the seat has seen.
abbrev pub registry_seen : RegistrySeat → RegistryHistory
registry_seen seat = entries registry_entry seat.gate.opening seat.seen

-- The history of the pool that the seat has seen.
abbrev pub pool_seen : PoolSeat → PoolHistory
pool_seen seat = entries pool_entry seat.gate.opening seat.seen

-- The object after all that the seat has seen.
abbrev pub object_of : {O C R : Type 0} → Holding O C R → O
object_of seat = after_all seat.gate.opening seat.seen

-- ---- what was read of the counts

-- Of each count, the seats have read at most one more than it is after the turns that the member has
-- seen, if nothing had happened at the object when its gate was opened. The one is a rise that
-- another seat has announced in a turn that has not ended. A read after these turns can find more.
pub record KnowWhatTheyRead (seats : Seats) : Type 0 where
  pub slots : (slot : ℕ) (seat : SlotSeat) → get_elem? seats.slots slot ≡ some seat →
      SlotRepresents [] seat.gate.opening →
      (seat.read.0 ≤ arrived (slot_history slot (turns_of seats.member.order)) + 1)
      × (seat.read.1 ≤ freed (slot_history slot (turns_of seats.member.order)) + 1)
  pub registry : (generation : ℕ) → RegistryRepresents generation [] seats.registry.gate.opening →
      seats.registry.read.0 ≤ settled (registry_history (turns_of seats.member.order)) + 1
  pub pool : PoolRepresents [] seats.pool.gate.opening →
      seats.pool.read.0 ≤ released (pool_history (turns_of seats.member.order)) + 1

-- ---- turns

-- A turn of the seat's own was made. The history that the seat has seen has grown by turns of
-- others, and then by this turn, whose entry is e. The seat was not marked as worn before.
pub record TakesTurn {O C R E : Type 0} (moves : O → C → R → O → Type 0) (counted : O → ℕ × ℕ)
    (entry : O → Turn O C R → E) (e : E) (before after : Holding O C R) : Type 0 where
  pub call : C
  pub reply : R
  pub answers : Answers (Moves moves counted) counted before call reply after
  pub fresh : before.worn ≡ false
  pub entered : entry (after_all before.gate.opening (before.seen ++ answers.others))
      (record { by = before.number; call = call; reply = reply; after = answers.object }) ≡ e

-- The turn was made at its object, and nothing was done at any other. It is the last of the order
-- that was seen, and what was read of the counts is bounded by this order.
abbrev pub MakesTurnAt : Seats → Op → Seats → Type 0
MakesTurnAt before (AtSlot slot call reply) after =
    ChangesAt slot before.slots after.slots
    (λ b a. TakesTurn SlotMoves slot_counts slot_entry (record { who = Seat b.number; call = call; reply = reply }) b a)
    × (after.registry ≡ before.registry) × (after.pool ≡ before.pool)
    × MakesTurn before.member (AtSlot slot call reply) after.member × KnowWhatTheyRead after
MakesTurnAt before (AtRegistry call reply) after =
    TakesTurn RegistryMoves registry_counts registry_entry
    (record { who = Seat before.registry.number; call = call; reply = reply }) before.registry after.registry
    × (after.slots ≡ before.slots) × (after.pool ≡ before.pool)
    × MakesTurn before.member (AtRegistry call reply) after.member × KnowWhatTheyRead after
MakesTurnAt before (AtPool call reply) after =
    TakesTurn PoolMoves pool_counts pool_entry (record { who = Seat before.pool.number; call = call; reply = reply })
    before.pool after.pool
    × (after.slots ≡ before.slots) × (after.registry ≡ before.registry)
    × MakesTurn before.member (AtPool call reply) after.member × KnowWhatTheyRead after

-- The gate of the object that the call is for was found worn out, and nothing was done at any
-- object.
abbrev pub FindsWorn : Seats → Ask → Seats → Type 0
FindsWorn before (OfSlot slot call) after =
    ChangesAt slot before.slots after.slots (λ b a. a ≡ marked b) × (after.registry ≡ before.registry)
    × (after.pool ≡ before.pool) × SeesMore before.member after.member
FindsWorn before (OfRegistry call) after =
    (after.registry ≡ marked before.registry) × (after.slots ≡ before.slots) × (after.pool ≡ before.pool)
    × SeesMore before.member after.member
FindsWorn before (OfPool call) after =
    (after.pool ≡ marked before.pool) × (after.slots ≡ before.slots) × (after.registry ≡ before.registry)
    × SeesMore before.member after.member
