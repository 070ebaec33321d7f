-- How the seats at all objects are split and joined, and what the gates return when they are
-- closed. This project's profile.
use Rattle.std.specs.Prelude.{◌≡◌, ℕ, List, map}
use Rattle.std.specs.List.{AllByRecursion}
use mathlib.Core.Option.{some}
use lib.ListN.{get_elem?}
use Rattle.sysv_model.specs.Turn.{slot_history, registry_history, pool_history}
use Rattle.sysv_model.specs.Turns.{Numbered, turns_of}
use Rattle.sysv_model.specs.Members.{AreWhole, Splits, Joins as MembersJoin, Closes as MemberCloses}
use Rattle.sysv_objects.specs.LegalOp.{AreLegal}
use Rattle.sysv_queue.specs.Slot.{Slot}
use Rattle.sysv_gate.specs.declared.gate.closing.Closing.{Closing}
use Rattle.sysv_gate.specs.declared.table.view.Turn.{Turn}
use Rattle.sysv_gate.specs.History.{Moves}
use Rattle.sysv_gate.specs.Gates.{Holding, parted, IsSplit, Joins}
use Rattle.sysv_gate.specs.Closings.{IsBack, Closes}
use Rattle.sysv_bank.specs.Banks.{Each2, Each3}
use Rattle.sysv_service.specs.declared.opening.GatesClosed.{GatesClosed}
use Rattle.sysv_objects.specs.SlotTurns.{SlotMoves}
use Rattle.sysv_service.specs.Counts.{slot_counts}
use Rattle.sysv_objects.specs.RegistryTurns.{RegistryMoves}
use Rattle.sysv_service.specs.Counts.{registry_counts}
use Rattle.sysv_objects.specs.PoolTurns.{PoolMoves}
use Rattle.sysv_service.specs.Counts.{pool_counts}
use Rattle.sysv_service.specs.Seats.{SlotSeat, Gates, Seats, AreOf, entries, slot_entry, registry_entry, pool_entry}
use Rattle.sysv_service.specs.Opened.{AreOpen}

-- At each object a seat was split off from the one that was there. The old seat is no longer alone,
-- and is otherwise unchanged.
pub record AreSplit (before after other : Seats) : Type 0 where
  pub slots : (after.slots ≡ map parted before.slots) × Each2 IsSplit before.slots other.slots
  pub registry : (after.registry ≡ parted before.registry) × IsSplit before.registry other.registry
  pub pool : (after.pool ≡ parted before.pool) × IsSplit before.pool other.pool
  pub member : Splits before.member after.member other.member

-- At each object one seat was joined into the other.
pub record AreJoined (one other after : Seats) : Type 0 where
  pub slots : Each3 (Joins (Moves SlotMoves slot_counts)) one.slots other.slots after.slots
  pub registry : Joins (Moves RegistryMoves registry_counts) one.registry other.registry after.registry
  pub pool : Joins (Moves PoolMoves pool_counts) one.pool other.pool after.pool
  pub member : MembersJoin one.member other.member after.member

-- The order has legal replies, if the seats belong to gates at whose objects nothing had happened
-- when they were opened.
abbrev pub LegalIfOpen : Seats → List Numbered → Type 0
LegalIfOpen seats order =
    (generation blocks first : ℕ) (gates : Gates) → AreOpen generation blocks first gates → AreOf gates seats →
    AreLegal generation blocks (turns_of order)

-- The gate was closed after these turns.
abbrev pub ClosesAfter : {O C R E : Type 0} → (O → C → R → O → Type 0) → (O → Turn O C R → E) → List E → Holding O C R →
    Closing O → Type 0
ClosesAfter moves entry turns seat c =
    (closes : Closes moves seat c) × (entries entry seat.gate.opening closes.log ≡ turns)

-- Each gate was closed after the order's part at its object.
pub record ClosesAfterEach (seats : Seats) (closed : GatesClosed) (order : List Numbered) : Type 0 where
  pub slots : (slot : ℕ) (seat : SlotSeat) (c : Closing Slot) → get_elem? seats.slots slot ≡ some seat →
      get_elem? closed.slots.items slot ≡ some c →
      ClosesAfter (Moves SlotMoves slot_counts) slot_entry (slot_history slot (turns_of order)) seat c
  pub registry : ClosesAfter (Moves RegistryMoves registry_counts) registry_entry (registry_history (turns_of order))
      seats.registry closed.registry
  pub pool : ClosesAfter (Moves PoolMoves pool_counts) pool_entry (pool_history (turns_of order)) seats.pool closed.pool

-- All gates were closed. What those of the slots returned is in the order of the slots' numbers.
pub record AllClose (seats : Seats) (closed : GatesClosed) : Type 0 where
  pub slots : Each2 (Closes (Moves SlotMoves slot_counts)) seats.slots closed.slots.items
  pub registry : Closes (Moves RegistryMoves registry_counts) seats.registry closed.registry
  pub pool : Closes (Moves PoolMoves pool_counts) seats.pool closed.pool
  -- The order of all turns. Its replies are legal if nothing had happened at the objects when the
  -- gates were opened.
  pub order : List Numbered
  pub member : MemberCloses seats.member order
  pub legal : LegalIfOpen seats order
  pub parts : ClosesAfterEach seats closed order
  -- If the seats have the whole service, no others are left, and each gate has returned its object.
  pub home : AreWhole seats.member.shares →
      AllByRecursion IsBack closed.slots.items × IsBack closed.registry × IsBack closed.pool
