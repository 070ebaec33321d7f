-- Proves that the last pass of a service is unmarked if each gate has turns left at the close.
use Rattle.std.proofs.Common.{◌≡◌, ℕ, zero, suc, false, List, [], ◌∷◌, length, refl}
use Rattle.std.proofs.Common.{sym, ap, subst, ◌∙◌, arith}
use Rattle.std.specs.List.{All, AllByRecursion}
use Rattle.std.proofs.lemmas.Bool.{false_from_ne_true}
use Rattle.std.proofs.lemmas.List.{length-map}
use Rattle.std.proofs.lemmas.List.Elements.{All-head, All-tail}
use mathlib.Core.Option.{some, some-injective, some-ne-none}
use lib.ListN.{get_elem?}
use Rattle.sysv_lists.proofs.Places.{at_below, there}
use Rattle.sysv_model.specs.Turn.{slot_history, registry_history, pool_history}
use Rattle.sysv_model.specs.Turns.{turns_of}
use Rattle.sysv_model.specs.Members.{AreWhole}
use Rattle.sysv_keys.specs.declared.identifier.TheConstants.{SLOTS}
use Rattle.sysv_queue.specs.Slot.{Slot}
use Rattle.sysv_gate.specs.declared.gate.closing.Closing.{Closing}
use Rattle.sysv_gate.specs.declared.table.view.Turn.{Turn as GateTurn}
use Rattle.sysv_gate.specs.History.{Moves}
use Rattle.sysv_gate.specs.Gates.{Gateway, Holding}
use Rattle.sysv_gate.specs.Closings.{IsBack, Closes}
use Rattle.sysv_bank.specs.Banks.{gates_of}
use Rattle.sysv_objects.specs.SlotTurns.{SlotMoves}
use Rattle.sysv_objects.specs.RegistryTurns.{RegistryMoves}
use Rattle.sysv_objects.specs.PoolTurns.{PoolMoves}
use Rattle.sysv_service.specs.declared.opening.GatesClosed.{GatesClosed}
use Rattle.sysv_service.specs.Counts.{slot_counts, registry_counts, pool_counts}
use Rattle.sysv_service.specs.Opened.{AreOpen}
use Rattle.sysv_service.specs.Seats.{SlotSeat, Gates, Seats, AreOf, entries, slot_entry, registry_entry, pool_entry}
use Rattle.sysv_service.specs.Sharing.{ClosesAfter, AllClose}
use Rattle.sysv_service.proofs.ClosedPlaces.{as_long}
use Rattle.sysv_service.specs.Marks.{IsUnmarked}
use Rattle.sysv_service.specs.TurnsLeft.{HasTurnsLeft, EachGateHasTurnsLeft}

-- There are as many entries as turns.
pub many_entries : {O C R E : Type 0} (entry : O → GateTurn O C R → E) (before : O) (log : List (GateTurn O C R)) →
    length (entries entry before log) ≡ length log
many_entries entry before [] = refl
many_entries entry before (t ∷ ts) = ap suc (many_entries entry t.after ts)

-- A seat whose gate returned its object and has turns left is not marked.
unworn : {O C R E : Type 0} (moves : O → C → R → O → Type 0) (entry : O → GateTurn O C R → E) (turns : List E)
    (seat : Holding O C R) (c : Closing O) → ClosesAfter moves entry turns seat c → IsBack c →
    HasTurnsLeft seat.gate.first (length turns) → seat.worn ≡ false
unworn moves entry turns seat c after back turns_left =
    false_from_ne_true seat.worn
    (λ mark.
    let log = after.0.log in
    let many = sym (many_entries entry seat.gate.opening log) ∙ ap length after.1 in
    let next = after.0.worn mark in
    let all = after.0.back.0 back in
    omega arith)

-- The fact holds of the element at this place.
of_all : {A : Type 0} (P : A → Type 0) (xs : List A) (i : ℕ) (x : A) → AllByRecursion P xs → get_elem? xs i ≡ some x →
    P x
of_all P [] i x all at = absurd (some-ne-none x (sym at))
of_all P (y ∷ xs) zero x all at = subst P (some-injective y x at) all.0
of_all P (y ∷ xs) (suc i) x all at = of_all P xs i x all.1 at

-- It holds of all elements if it does at each place.
all_of_each : {A : Type 0} (P : A → Type 0) (xs : List A) →
    ((i : ℕ) (x : A) → get_elem? xs i ≡ some x → P x) → AllByRecursion P xs
all_of_each P [] each = tt
all_of_each P (x ∷ xs) each = (each 0 x refl, all_of_each P xs (λ i y at. each (suc i) y at))

abbrev BeginsAt : ℕ → Gateway Slot → Type 0
BeginsAt first gate = gate.first ≡ first

-- The gate of the seat at this place begins with the same ticket as all of them.
begins_at : (first : ℕ) (seats : List SlotSeat) (k : ℕ) (seat : SlotSeat) → All (BeginsAt first) (gates_of seats) →
    get_elem? seats k ≡ some seat → seat.gate.first ≡ first
begins_at first [] k seat all at = absurd (some-ne-none seat (sym at))
begins_at first (s ∷ ss) zero seat all at =
    subst (λ (x : SlotSeat). x.gate.first ≡ first) (some-injective s seat at)
    (All-head (BeginsAt first) s.gate (gates_of ss) all)
begins_at first (s ∷ ss) (suc k) seat all at =
    begins_at first ss k seat (All-tail (BeginsAt first) s.gate (gates_of ss) all) at

module _ (generation blocks first : ℕ) (gates : Gates) (seats : Seats) (parts : GatesClosed)
    (opened : AreOpen generation blocks first gates) (fits : AreOf gates seats) (closes : AllClose seats parts)
    (whole : AreWhole seats.member.shares) (turns_left : EachGateHasTurnsLeft first closes.order) where
  unmarked_slots : AllByRecursion (λ (seat : SlotSeat). seat.worn ≡ false) seats.slots
  unmarked_slots =
      let items : List (Closing Slot) = parts.slots.items in
      let begin : All (BeginsAt first) (gates_of seats.slots) =
      subst (All (BeginsAt first)) (sym fits.slots) opened.slots.2 in
      let as_many : length seats.slots ≡ length items =
      as_long (Closes (Moves SlotMoves slot_counts)) seats.slots items closes.slots in
      let many : length seats.slots ≡ SLOTS =
      sym (length-map seats.slots (λ (s : SlotSeat). s.gate)) ∙ (ap length fits.slots ∙ opened.slots.0) in
      all_of_each (λ (seat : SlotSeat). seat.worn ≡ false) seats.slots
      (λ k seat at.
      let less = at_below seats.slots k seat at in
      let c = there items k (omega (arith, less, as_many)) in
      unworn (Moves SlotMoves slot_counts) slot_entry (slot_history k (turns_of closes.order)) seat c.0
      (closes.parts.slots k seat c.0 at c.1)
      (of_all IsBack items k c.0 (closes.home whole).0 c.1)
      (subst (λ n. HasTurnsLeft n (length (slot_history k (turns_of closes.order))))
      (sym (begins_at first seats.slots k seat begin at)) (turns_left.slots k (omega (arith, less, many)))))

  pub unmarked_at_the_end : IsUnmarked seats
  unmarked_at_the_end = record {
    slots = unmarked_slots;
    registry = unworn (Moves RegistryMoves registry_counts) registry_entry
        (registry_history (turns_of closes.order)) seats.registry parts.registry closes.parts.registry
        (closes.home whole).1
        (subst (λ n. HasTurnsLeft n (length (registry_history (turns_of closes.order))))
        (sym (ap (λ g. g.first) fits.registry ∙ opened.registry.1)) turns_left.registry);
    pool = unworn (Moves PoolMoves pool_counts) pool_entry (pool_history (turns_of closes.order)) seats.pool
        parts.pool closes.parts.pool (closes.home whole).2
        (subst (λ n. HasTurnsLeft n (length (pool_history (turns_of closes.order))))
        (sym (ap (λ g. g.first) fits.pool ∙ opened.pool.2)) turns_left.pool);
  }
