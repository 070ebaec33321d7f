-- Proves that the first pass belongs to the service.
use Rattle.std.proofs.Common.{◌≡◌, List, [], ◌∷◌, map, refl, ap}
use Rattle.sysv_queue.specs.Slot.{Slot}
use Rattle.sysv_gate.specs.Gates.{Gateway, opened}
use Rattle.sysv_bank.specs.Banks.{gates_of}
use Rattle.sysv_objects.specs.declared.slot.SlotCall.{SlotCall}
use Rattle.sysv_objects.specs.declared.slot.SlotReply.{SlotReply}
use Rattle.sysv_service.specs.Seats.{Gates, AreOf}
use Rattle.sysv_service.specs.Opened.{all_opened}

of_slots : (gates : List (Gateway Slot)) → gates_of {O = Slot} {C = SlotCall} {R = SlotReply} (map opened gates) ≡ gates
of_slots [] = refl
of_slots (g ∷ gates) = ap (λ gs. g ∷ gs) (of_slots gates)

pub first_fits : (gates : Gates) → AreOf gates (all_opened gates)
first_fits gates = record { slots = of_slots gates.slots; registry = refl; pool = refl }
