-- How contracts see the places of a bank as the registry, the pool and the slots. This project's
-- profile.
use Rattle.std.specs.Prelude.{List, [], ◌∷◌, map}
use Rattle.atomic_table.specs.Seated.{TableId}
use Rattle.sysv_model.specs.Members.{Member}
use Rattle.sysv_bank.specs.Banks.{gates_of}
use Rattle.sysv_gate.specs.Gates.{Gateway, Holding, opened}
use Rattle.sysv_service.specs.declared.kinds.Gated.{Gated}
use Rattle.sysv_objects.specs.declared.object.ObjectCall.{ObjectCall}
use Rattle.sysv_objects.specs.declared.object.ObjectReply.{ObjectReply}
use Rattle.sysv_service.specs.Order.{GatedPass, member_of}
use Rattle.sysv_service.specs.ObjectKinds.{gate_as, seat_as}
use Rattle.sysv_service.specs.Gated.{IsSlot, IsRegistry, IsPool, as_slot, as_registry, as_pool}
use Rattle.sysv_service.specs.Seats.{SlotSeat, RegistrySeat, PoolSeat, Gates, Seats}

-- Each of the gates has a slot behind it.
abbrev pub AreSlots : List (Gateway Gated) → Type 0
AreSlots [] = Unit {0}
AreSlots (g ∷ gs) = IsSlot g.opening × AreSlots gs

-- The registry is at the first place, the pool at the second, and the slots are at all others.
abbrev pub AreByKind : List (Gateway Gated) → Type 0
AreByKind [] = ⊥
AreByKind (r ∷ []) = ⊥
AreByKind (r ∷ p ∷ ss) = IsRegistry r.opening × IsPool p.opening × AreSlots ss

-- Stands in for a gate if the bank lacks even these two places. Nothing is stated of it.
abbrev pub no_table : TableId
no_table = record { words = 0; slots = 0; views_name = 0; atom = 0; block = 0; offset = 0; slot_names = [] }

-- The gates that contracts see if the bank lacks these two places.
abbrev pub no_gates : Gates
no_gates = record {
  slots = [];
  registry = record { table = no_table; opening = record { places = []; settled = 0 }; first = 0 };
  pool = record { table = no_table; opening = record { size = 0; free = 0; released = 0 }; first = 0 };
}

-- The seats at the slots.
abbrev pub slot_seats : List (Holding Gated ObjectCall ObjectReply) → List SlotSeat
slot_seats [] = []
slot_seats (r ∷ []) = []
slot_seats (r ∷ p ∷ ss) = map (seat_as as_slot) ss

-- The seat at the registry.
abbrev pub registry_seat : List (Holding Gated ObjectCall ObjectReply) → RegistrySeat
registry_seat [] = opened no_gates.registry
registry_seat (r ∷ []) = opened no_gates.registry
registry_seat (r ∷ p ∷ ss) = seat_as as_registry r

-- The seat at the pool.
abbrev pub pool_seat : List (Holding Gated ObjectCall ObjectReply) → PoolSeat
pool_seat [] = opened no_gates.pool
pool_seat (r ∷ []) = opened no_gates.pool
pool_seat (r ∷ p ∷ ss) = seat_as as_pool p

-- The seats at all objects, with what they have together as one member of a team.
abbrev pub seats_at : List (Holding Gated ObjectCall ObjectReply) → Member → Seats
seats_at seats member =
    record { slots = slot_seats seats; registry = registry_seat seats; pool = pool_seat seats; member = member }

-- What contracts see of the gates of a bank.
abbrev pub gates_seen : List (Gateway Gated) → Gates
gates_seen [] = no_gates
gates_seen (r ∷ []) = no_gates
gates_seen (r ∷ p ∷ ss) =
    record { slots = map (gate_as as_slot) ss; registry = gate_as as_registry r; pool = gate_as as_pool p }

-- What contracts see of a pass of the bank.
abbrev pub seats_seen : GatedPass → Seats
seats_seen pass = seats_at pass.seats (member_of (gates_of pass.seats) pass)
