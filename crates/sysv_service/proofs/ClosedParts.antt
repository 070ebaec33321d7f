-- Proves that each gate of a closed bank returns what is there after the order's part at its
-- object.
use Rattle.std.proofs.Common.{◌≡◌, ℕ, zero, suc, List, [], ◌∷◌, map, IfSome, refl, sym, ap, subst, ◌∙◌}
use mathlib.Core.Option.{some, some-injective, some-ne-none}
use lib.ListN.{get_elem?}
use Rattle.atomic_table.proofs.Lists.{at_map}
use Rattle.sysv_model.specs.Turn.{slot_history, registry_history, pool_history}
use Rattle.sysv_model.specs.Turns.{turns_of}
use Rattle.sysv_queue.specs.Slot.{Slot}
use Rattle.sysv_gate.specs.declared.gate.closing.Closing.{Closing}
use Rattle.sysv_gate.specs.declared.table.view.Turn.{Turn}
use Rattle.sysv_gate.specs.History.{Moves}
use Rattle.sysv_gate.specs.Gates.{Gateway}
use Rattle.sysv_gate.specs.Closings.{Closes}
use Rattle.sysv_gate.specs.Orders.{turns_at}
use Rattle.sysv_bank.specs.Banks.{gates_of, Each2}
use Rattle.sysv_bank.specs.Closing.{ClosesInOrder}
use Rattle.sysv_service.specs.declared.kinds.Gated.{Gated}
use Rattle.sysv_objects.specs.declared.object.ObjectCall.{ObjectCall}
use Rattle.sysv_objects.specs.declared.object.ObjectReply.{ObjectReply}
use Rattle.sysv_service.specs.declared.opening.GatesClosed.{GatesClosed}
use Rattle.sysv_objects.specs.SlotTurns.{SlotMoves}
use Rattle.sysv_service.specs.Counts.{slot_counts}
use Rattle.sysv_objects.specs.RegistryTurns.{RegistryMoves}
use Rattle.sysv_service.specs.Counts.{registry_counts}
use Rattle.sysv_objects.specs.PoolTurns.{PoolMoves}
use Rattle.sysv_service.specs.Counts.{pool_counts}
use Rattle.sysv_service.specs.Gated.{IsSlot, IsRegistry, IsPool, as_slot, as_registry, as_pool, GatedMoves}
use Rattle.sysv_service.specs.Gated.{gated_counts}
use Rattle.sysv_service.specs.ObjectKinds.{Kind, turn_as, seat_as, IsClosingAs}
use Rattle.sysv_service.specs.Seats.{SlotSeat, entries, slot_entry, registry_entry, pool_entry}
use Rattle.sysv_service.specs.Sharing.{ClosesAfter, ClosesAfterEach}
use Rattle.sysv_service.specs.Order.{GatedPlaced, GatedPass, opening_at, ops_of}
use Rattle.sysv_service.specs.Banked.{AreByKind, seats_at}
use Rattle.sysv_service.proofs.GateOfKind.{Keeps, back_as, closes_as, log_as, object_kept}
use Rattle.sysv_service.proofs.KindsKept.{keeps_slot, keeps_registry, keeps_pool}
use Rattle.sysv_service.proofs.PlacesShown.{Mark, slots_at}
use Rattle.sysv_service.proofs.SplitJoinEnd.{GivenBack}
use Rattle.sysv_service.proofs.OrderedHistories.{slot_history_of, registry_history_of, pool_history_of}
use Rattle.sysv_model.specs.Members.{Member}

-- ---- one gate

module _ {O C R E : Type 0} (kind : Kind Gated ObjectCall ObjectReply O C R) (Is : Gated → Type 0)
    (moves : O → C → R → O → Type 0) (counted : O → ℕ × ℕ)
    (keeps : Keeps kind Is (Moves GatedMoves gated_counts) gated_counts (Moves moves counted) counted)
    (entry : O → Turn O C R → E) where
  after_part : (h : Mark) (c : Closing Gated) (c' : Closing O) (place : ℕ) (order : List GatedPlaced) (turns : List E) →
      Is h.gate.opening → IsClosingAs kind c c' →
      (closes : Closes (Moves GatedMoves gated_counts) h c) → closes.log ≡ turns_at place order →
      turns ≡ entries entry (kind.object h.gate.opening) (map (turn_as kind) (turns_at place order)) →
      ClosesAfter (Moves moves counted) entry turns (seat_as kind h) c'
  after_part h c c' place order turns is same closes part told =
      let log = log_as kind Is (Moves GatedMoves gated_counts) gated_counts (Moves moves counted) counted keeps h c c'
      is same closes in (
        closes_as kind Is (Moves GatedMoves gated_counts) gated_counts (Moves moves counted) counted keeps h c c' is
            same closes,
        ap (entries entry (kind.object h.gate.opening)) (log ∙ ap (map (turn_as kind)) part) ∙ sym told,
      )

-- ---- places

pub opened_there : (hs : List Mark) (k : ℕ) (h : Mark) → get_elem? hs k ≡ some h →
    opening_at (gates_of hs) k ≡ h.gate.opening
opened_there [] k h at = absurd (some-ne-none h (sym at))
opened_there (x ∷ hs) zero h at = ap (λ (m : Mark). m.gate.opening) (some-injective x h at)
opened_there (x ∷ hs) (suc k) h at = opened_there hs k h at

given_there : (cs : List (Closing Gated)) (ds : List (Closing Slot)) (k : ℕ) (d : Closing Slot) →
    Each2 GivenBack cs ds → get_elem? ds k ≡ some d →
    (c : Closing Gated) × (get_elem? cs k ≡ some c) × GivenBack c d
given_there [] [] k d e at = absurd (some-ne-none d (sym at))
given_there [] (y ∷ ds) k d e at = absurd e
given_there (x ∷ cs) [] k d e at = absurd e
given_there (x ∷ cs) (y ∷ ds) zero d e at = (x, refl, subst (GivenBack x) (some-injective y d at) e.0)
given_there (x ∷ cs) (y ∷ ds) (suc k) d e at = given_there cs ds k d e.1 at

-- ---- all of them

abbrev at_place : List (Closing Gated) → ℕ → Closing Gated → Type 0
at_place cs place c = get_elem? cs place ≡ some c

pub all_parts : (last : GatedPass) (cs done : List (Closing Gated)) (r p : Closing Gated) (closed : GatesClosed)
    (m : Member) → AreByKind (gates_of last.seats) →
    (o : ClosesInOrder (Moves GatedMoves gated_counts) last cs) → cs ≡ r ∷ p ∷ done →
    Each2 GivenBack done closed.slots.items →
    (IfSome r.object IsRegistry → IsClosingAs as_registry r closed.registry) →
    (IfSome p.object IsPool → IsClosingAs as_pool p closed.pool) →
    ClosesAfterEach (seats_at last.seats m) closed (ops_of (gates_of last.seats) o.order)
all_parts last cs done r p closed m kinds o is back registry pool =
    parted last.seats kinds (λ place h c there at. o.each place h c there (subst (λ l. at_place l place c) (sym is) at))
  where
    each_place : List Mark → Type 0
    each_place seats =
        (place : ℕ) (h : Mark) (c : Closing Gated) → get_elem? seats place ≡ some h → at_place (r ∷ p ∷ done) place c →
        (closes : Closes (Moves GatedMoves gated_counts) h c) × (closes.log ≡ turns_at place o.order)

    parted : (seats : List Mark) → AreByKind (gates_of seats) → each_place seats →
        ClosesAfterEach (seats_at seats m) closed (ops_of (gates_of seats) o.order)
    parted [] are each = absurd are
    parted (x ∷ []) are each = absurd are
    parted (x ∷ y ∷ ss) are each =
        let gates : List (Gateway Gated) = gates_of (x ∷ y ∷ ss) in
        let first = each 0 x r refl refl in
        let second = each 1 y p refl refl in
        record {
          slots = λ slot seat d there at.
              let s = back_as (seat_as as_slot) ss slot seat there in
              let kind = slots_at (gates_of ss) slot s.0.gate are.2 (at_map (λ (h : Mark). h.gate) ss slot s.0 s.1) in
              let c = given_there done closed.slots.items slot d back at in
              let own = each (suc (suc slot)) s.0 c.0 s.1 c.1 in
              let same = c.2 (object_kept as_slot IsSlot (Moves GatedMoves gated_counts) gated_counts
              (Moves SlotMoves slot_counts) slot_counts keeps_slot s.0 c.0 kind own.0) in
              subst (λ (h : SlotSeat).
              ClosesAfter (Moves SlotMoves slot_counts) slot_entry
              (slot_history slot (turns_of (ops_of gates o.order))) h d) (sym s.2)
              (after_part as_slot IsSlot SlotMoves slot_counts keeps_slot slot_entry s.0 c.0 d (suc (suc slot)) o.order
              (slot_history slot (turns_of (ops_of gates o.order))) kind same own.0 own.1
              (slot_history_of gates slot o.order
              ∙ ap (λ g.
              entries slot_entry (as_slot.object g) (map (turn_as as_slot) (turns_at (suc (suc slot)) o.order)))
              (opened_there ss slot s.0 s.1)));
          registry =
              after_part as_registry IsRegistry RegistryMoves registry_counts keeps_registry registry_entry x r
              closed.registry 0 o.order (registry_history (turns_of (ops_of gates o.order))) are.0
              (registry (object_kept as_registry IsRegistry (Moves GatedMoves gated_counts) gated_counts
              (Moves RegistryMoves registry_counts) registry_counts keeps_registry x r are.0 first.0)) first.0 first.1
              (registry_history_of gates o.order);
          pool =
              after_part as_pool IsPool PoolMoves pool_counts keeps_pool pool_entry y p closed.pool 1 o.order
              (pool_history (turns_of (ops_of gates o.order))) are.1
              (pool (object_kept as_pool IsPool (Moves GatedMoves gated_counts) gated_counts
              (Moves PoolMoves pool_counts) pool_counts keeps_pool y p are.1 second.0)) second.0 second.1
              (pool_history_of gates o.order);
        }
