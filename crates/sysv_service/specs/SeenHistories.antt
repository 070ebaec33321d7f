-- What a seat has seen of an object is a history that the object represents, if the object stood
-- for no turn when its gate was opened. A turn of the seat's own is the last entry of what the seat
-- has seen afterwards, after all that it had seen before and the turns of others. This project's
-- profile.
use Rattle.std.specs.Prelude.{◌≡◌, ℕ, [], ◌∷◌, ◌++◌}
use Rattle.sysv_model.specs.History.{Entry, History}
use Rattle.sysv_model.specs.Registry.{RegistryEntry, RegistryHistory}
use Rattle.sysv_model.specs.Pool.{PoolEntry, PoolHistory}
use Rattle.sysv_keys.specs.RegistryLaw.{RegistryLaw}
use Rattle.sysv_keys.specs.Represents.{Represents as RegistryRepresents}
use Rattle.sysv_pool.specs.PoolLaw.{PoolLaw}
use Rattle.sysv_queue.specs.QueueLaw.{QueueLaw}
use Rattle.sysv_pool.specs.Represents.{Represents as PoolRepresents}
use Rattle.sysv_queue.specs.Represents.{Represents as SlotRepresents}
use mathlib.Core.Option.{some}
use lib.ListN.{get_elem?}
use Rattle.sysv_gate.specs.History.{Moves, IsLegal}
use Rattle.sysv_gate.specs.Gates.{KnowsItsOwn}
use Rattle.sysv_objects.specs.SlotTurns.{SlotMoves}
use Rattle.sysv_service.specs.Counts.{slot_counts}
use Rattle.sysv_objects.specs.RegistryTurns.{RegistryMoves}
use Rattle.sysv_service.specs.Counts.{registry_counts}
use Rattle.sysv_objects.specs.PoolTurns.{PoolMoves}
use Rattle.sysv_service.specs.Counts.{pool_counts}
use Rattle.sysv_service.specs.Opened.{AreOpen}
use Rattle.sysv_service.specs.Seats.{SlotSeat, RegistrySeat, PoolSeat, Gates, Seats, AreOf, slot_entry, registry_entry}
use Rattle.sysv_service.specs.Seats.{pool_entry, slot_seen, registry_seen, pool_seen, object_of, TakesTurn}

-- A legal history that a seat has seen of an object is one that the object represents, if nothing
-- had happened at the object when its gate was opened.
pub record SeenHistories : Type 0 where
  pub slots : (seat : SlotSeat) → SlotRepresents [] seat.gate.opening →
      IsLegal (Moves SlotMoves slot_counts) seat.gate.opening seat.seen →
      SlotRepresents (slot_seen seat) (object_of seat)
  pub registry : (generation : ℕ) (seat : RegistrySeat) → RegistryRepresents generation [] seat.gate.opening →
      IsLegal (Moves RegistryMoves registry_counts) seat.gate.opening seat.seen →
      RegistryRepresents generation (registry_seen seat) (object_of seat)
  pub pool : (seat : PoolSeat) → PoolRepresents [] seat.gate.opening →
      IsLegal (Moves PoolMoves pool_counts) seat.gate.opening seat.seen →
      PoolRepresents (pool_seen seat) (object_of seat)

-- Such a history obeys the law of its object.
pub record SeenHistoriesObey : Type 0 where
  pub slots : (seat : SlotSeat) → SlotRepresents [] seat.gate.opening →
      IsLegal (Moves SlotMoves slot_counts) seat.gate.opening seat.seen → QueueLaw (slot_seen seat)
  pub registry : (generation : ℕ) (seat : RegistrySeat) → RegistryRepresents generation [] seat.gate.opening →
      IsLegal (Moves RegistryMoves registry_counts) seat.gate.opening seat.seen →
      RegistryLaw generation (registry_seen seat)
  pub pool : (seat : PoolSeat) → PoolRepresents [] seat.gate.opening →
      IsLegal (Moves PoolMoves pool_counts) seat.gate.opening seat.seen → PoolLaw (object_of seat).size (pool_seen seat)

-- ---- the seats at all objects

-- Each of the seats has seen a legal history, and knows exactly its own turns in it.
pub record EachKnowsItsOwn (seats : Seats) : Type 0 where
  pub slots : (slot : ℕ) (seat : SlotSeat) → get_elem? seats.slots slot ≡ some seat →
      KnowsItsOwn (Moves SlotMoves slot_counts) seat
  pub registry : KnowsItsOwn (Moves RegistryMoves registry_counts) seats.registry
  pub pool : KnowsItsOwn (Moves PoolMoves pool_counts) seats.pool

-- What each of the seats has seen obeys the law of its object. The identifiers began with this
-- generation.
pub record EachObeys (generation : ℕ) (seats : Seats) : Type 0 where
  pub slots : (slot : ℕ) (seat : SlotSeat) → get_elem? seats.slots slot ≡ some seat → QueueLaw (slot_seen seat)
  pub registry : RegistryLaw generation (registry_seen seats.registry)
  pub pool : PoolLaw (object_of seats.pool).size (pool_seen seats.pool)

-- The seats obey these laws if nothing had happened at the objects when the gates were opened.
abbrev pub ObeysIfOpen : Seats → Type 0
ObeysIfOpen seats = (generation blocks first : ℕ) (gates : Gates) → AreOpen generation blocks first gates →
    AreOf gates seats → EachObeys generation seats

-- A turn of the seat's own is the last entry of the history that the seat has seen afterwards.
pub record OwnTurnsAreLast : Type 0 where
  pub slots : (before after : SlotSeat) (e : Entry) → TakesTurn SlotMoves slot_counts slot_entry e before after →
      (others : History) × (slot_seen after ≡ (slot_seen before ++ others) ++ e ∷ [])
  pub registry : (before after : RegistrySeat) (e : RegistryEntry) →
      TakesTurn RegistryMoves registry_counts registry_entry e before after →
      (others : RegistryHistory) × (registry_seen after ≡ (registry_seen before ++ others) ++ e ∷ [])
  pub pool : (before after : PoolSeat) (e : PoolEntry) → TakesTurn PoolMoves pool_counts pool_entry e before after →
      (others : PoolHistory) × (pool_seen after ≡ (pool_seen before ++ others) ++ e ∷ [])
