-- What a pass of the bank has read of the counts, bounded by the histories of the objects in the
-- order that it has seen.
use Rattle.std.proofs.Common.{◌≡◌, ℕ, suc, ◌+◌, ◌≤◌, List, [], ◌∷◌, map, refl, sym, ap, subst, ◌∙◌, arith}
use mathlib.Core.Option.{some}
use lib.ListN.{get_elem?}
use Rattle.atomic_table.proofs.Lists.{at_map}
use Rattle.sysv_model.specs.History.{arrived, freed}
use Rattle.sysv_model.specs.Registry.{settled}
use Rattle.sysv_model.specs.Pool.{released}
use Rattle.sysv_model.specs.Turn.{slot_history, registry_history, pool_history}
use Rattle.sysv_model.specs.Turns.{turns_of}
use Rattle.sysv_queue.specs.Slot.{Slot}
use Rattle.sysv_queue.specs.Represents.{Represents as SlotRepresents}
use Rattle.sysv_keys.specs.State.{State as RegistryState}
use Rattle.sysv_keys.specs.Represents.{Represents as RegistryRepresents}
use Rattle.sysv_pool.specs.State.{State}
use Rattle.sysv_pool.specs.Represents.{Represents as PoolRepresents}
use Rattle.sysv_gate.specs.declared.count.Count.{Count}
use Rattle.sysv_gate.specs.declared.count.Count.TheVariants.{Arrived, Freed}
use Rattle.sysv_gate.specs.Counts.{of_count}
use Rattle.sysv_gate.specs.History.{Moves, IsLegal, after_all}
use Rattle.sysv_gate.specs.Orders.{turns_at}
use Rattle.sysv_gate.specs.Gates.{Gateway}
use Rattle.sysv_bank.specs.Banks.{gates_of}
use Rattle.sysv_bank.specs.Passes.{KnowsItsReads}
use Rattle.sysv_objects.specs.SlotTurns.{SlotMoves}
use Rattle.sysv_objects.specs.RegistryTurns.{RegistryMoves}
use Rattle.sysv_objects.specs.PoolTurns.{PoolMoves}
use Rattle.sysv_service.specs.declared.kinds.Gated.{Gated}
use Rattle.sysv_service.specs.Counts.{slot_counts, registry_counts, pool_counts}
use Rattle.sysv_service.specs.Gated.{IsSlot, IsRegistry, IsPool, as_slot, as_registry, as_pool, GatedMoves}
use Rattle.sysv_service.specs.Gated.{gated_counts}
use Rattle.sysv_service.specs.ObjectKinds.{turn_as, seat_as}
use Rattle.sysv_service.specs.Seats.{SlotSeat, KnowWhatTheyRead, entries, slot_entry, registry_entry, pool_entry}
use Rattle.sysv_service.specs.Order.{GatedPlaced, GatedPass, opening_at, ops_of}
use Rattle.sysv_service.specs.Banked.{AreByKind, seats_at, seats_seen}
use Rattle.sysv_service.proofs.ClosedParts.{opened_there}
use Rattle.sysv_service.proofs.GateOfKind.{back_as, legal_as, counted_as}
use Rattle.sysv_service.proofs.KindsKept.{keeps_slot, keeps_registry, keeps_pool}
use Rattle.sysv_service.proofs.Histories.{slot_on, registry_on, pool_on}
use Rattle.sysv_service.proofs.OrderedHistories.{slot_history_of, registry_history_of, pool_history_of}
use Rattle.sysv_service.proofs.PlacesShown.{Mark, slots_at}

-- What is known of the seat at a place: the turns there are legal, and bound what it has read.
abbrev There : List GatedPlaced → ℕ → Mark → Type 0
There order place h = IsLegal (Moves GatedMoves gated_counts) h.gate.opening (turns_at place order)
    × ((count : Count) →
    of_count count h.read ≤ of_count count (gated_counts (after_all h.gate.opening (turns_at place order))) + 1)

module _ (order : List GatedPlaced) (gates : List (Gateway Gated)) where
  slot_read : (slot : ℕ) (h : Mark) → IsSlot h.gate.opening → opening_at gates (suc (suc slot)) ≡ h.gate.opening →
      There order (suc (suc slot)) h → SlotRepresents [] (as_slot.object h.gate.opening) →
      (h.read.0 ≤ arrived (slot_history slot (turns_of (ops_of gates order))) + 1)
      × (h.read.1 ≤ freed (slot_history slot (turns_of (ops_of gates order))) + 1)
  slot_read slot h kind opens known stands =
      let o = h.gate.opening in
      let ts = turns_at (suc (suc slot)) order in
      let legal = legal_as as_slot IsSlot (Moves GatedMoves gated_counts) gated_counts (Moves SlotMoves slot_counts)
      slot_counts keeps_slot o ts kind known.0 in
      let counts = counted_as as_slot IsSlot (Moves GatedMoves gated_counts) gated_counts (Moves SlotMoves slot_counts)
      slot_counts keeps_slot o ts kind known.0 in
      let now = (slot_on [] (as_slot.object o) (map (turn_as as_slot) ts) stands legal).seen in
      let part = slot_history_of gates slot order
      ∙ ap (λ g. entries slot_entry (as_slot.object g) (map (turn_as as_slot) ts)) opens in
      let first = ap (λ (n : ℕ × ℕ). n.0) counts in
      let second = ap (λ (n : ℕ × ℕ). n.1) counts in
      let came = ap (λ (s : Slot). s.arrived) now in
      let left = ap (λ (s : Slot). s.freed) now in
      let came_part = ap arrived part in
      let left_part = ap freed part in
      let one = known.1 Arrived in
      let two = known.1 Freed in
      (omega arith, omega arith)

  registry_read : (generation : ℕ) (h : Mark) → IsRegistry h.gate.opening → opening_at gates 0 ≡ h.gate.opening →
      There order 0 h → RegistryRepresents generation [] (as_registry.object h.gate.opening) →
      h.read.0 ≤ settled (registry_history (turns_of (ops_of gates order))) + 1
  registry_read generation h kind opens known stands =
      let o = h.gate.opening in
      let ts = turns_at 0 order in
      let legal = legal_as as_registry IsRegistry (Moves GatedMoves gated_counts) gated_counts
      (Moves RegistryMoves registry_counts) registry_counts keeps_registry o ts kind known.0 in
      let counts = counted_as as_registry IsRegistry (Moves GatedMoves gated_counts) gated_counts
      (Moves RegistryMoves registry_counts) registry_counts keeps_registry o ts kind known.0 in
      let now = ap (λ (s : RegistryState). s.settled)
      (registry_on generation [] (as_registry.object o) (map (turn_as as_registry) ts) stands legal).seen in
      let part = registry_history_of gates order
      ∙ ap (λ g. entries registry_entry (as_registry.object g) (map (turn_as as_registry) ts)) opens in
      let first = ap (λ (n : ℕ × ℕ). n.0) counts in
      let settled_part = ap settled part in
      let one = known.1 Arrived in
      omega arith

  pool_read : (h : Mark) → IsPool h.gate.opening → opening_at gates 1 ≡ h.gate.opening → There order 1 h →
      PoolRepresents [] (as_pool.object h.gate.opening) →
      h.read.0 ≤ released (pool_history (turns_of (ops_of gates order))) + 1
  pool_read h kind opens known stands =
      let o = h.gate.opening in
      let ts = turns_at 1 order in
      let legal = legal_as as_pool IsPool (Moves GatedMoves gated_counts) gated_counts (Moves PoolMoves pool_counts)
      pool_counts keeps_pool o ts kind known.0 in
      let counts = counted_as as_pool IsPool (Moves GatedMoves gated_counts) gated_counts (Moves PoolMoves pool_counts)
      pool_counts keeps_pool o ts kind known.0 in
      let now = ap (λ (s : State). s.released)
      (pool_on [] (as_pool.object o) (map (turn_as as_pool) ts) stands legal).seen in
      let part = pool_history_of gates order
      ∙ ap (λ g. entries pool_entry (as_pool.object g) (map (turn_as as_pool) ts)) opens in
      let first = ap (λ (n : ℕ × ℕ). n.0) counts in
      let released_part = ap released part in
      let one = known.1 Arrived in
      omega arith

each_read : (order : List GatedPlaced) (number : ℕ) (numbers shares : List ℕ) (seats : List Mark) →
    AreByKind (gates_of seats) → ((place : ℕ) (h : Mark) → get_elem? seats place ≡ some h → There order place h) →
    KnowWhatTheyRead (seats_at seats
    (record { number = number; numbers = numbers; shares = shares; order = ops_of (gates_of seats) order }))
each_read order number numbers shares [] kinds known = absurd kinds
each_read order number numbers shares (r ∷ []) kinds known = absurd kinds
each_read order number numbers shares (r ∷ p ∷ ss) kinds known =
    let gates : List (Gateway Gated) = gates_of (r ∷ p ∷ ss) in
    record {
      slots = λ slot seat there stands.
          let s = back_as (seat_as as_slot) ss slot seat there in
          let kind = slots_at (gates_of ss) slot s.0.gate kinds.2 (at_map (λ (h : Mark). h.gate) ss slot s.0 s.1) in
          subst (λ (h : SlotSeat).
          (h.read.0 ≤ arrived (slot_history slot (turns_of (ops_of gates order))) + 1)
          × (h.read.1 ≤ freed (slot_history slot (turns_of (ops_of gates order))) + 1)) (sym s.2)
          (slot_read order gates slot s.0 kind (opened_there ss slot s.0 s.1) (known (suc (suc slot)) s.0 s.1)
          (subst (λ (h : SlotSeat). SlotRepresents [] h.gate.opening) s.2 stands));
      registry = λ generation stands. registry_read order gates generation r kinds.0 refl (known 0 r refl) stands;
      pool = λ stands. pool_read order gates p kinds.1 refl (known 1 p refl) stands;
    }

pub know_what_they_read : (pass : GatedPass) → AreByKind (gates_of pass.seats) →
    KnowsItsReads (Moves GatedMoves gated_counts) gated_counts pass → KnowWhatTheyRead (seats_seen pass)
know_what_they_read pass kinds known = each_read pass.order pass.number pass.numbers pass.shares pass.seats kinds
    (λ place h at. (known.legal place h at, known.reads place h at))
