-- The histories of the objects in the turns of an order, as the world has them, and proofs that
-- their replies are legal.
use Rattle.std.proofs.Common.{◌≡◌, ◌≢◌, ℕ, zero, suc, ◌==◌, true, false, cond, List, [], ◌∷◌, ◌++◌, map, length, refl}
use Rattle.std.proofs.Common.{sym, ap, subst, ◌∙◌, arith, lt_of_not-le}
use Rattle.std.proofs.lemmas.Bool.Decides.{nat_tests}
use Rattle.std.proofs.lemmas.List.{append-nil}
use Rattle.std.proofs.lemmas.List.Elements.{All-head, All-tail}
use Rattle.std.specs.List.{All, flat_map}
use mathlib.Core.Logic.{dite}
use native.Mathlib.Decide.{ℕ_discrete, dec_le}
use mathlib.Core.Option.{some, some-injective, some-ne-none}
use lib.ListN.{get_elem?}
use Rattle.sysv_lists.proofs.Places.{there}
use Rattle.sysv_model.specs.Turn.{Turn as WorldTurn, slot_entry as world_slot_entry}
use Rattle.sysv_model.specs.Turn.{registry_entry as world_registry_entry, pool_entry as world_pool_entry, slot_history}
use Rattle.sysv_model.specs.Turn.{registry_history, pool_history}
use Rattle.sysv_model.specs.Turns.{turn_of, turns_of}
use Rattle.sysv_queue.specs.Slot.{Slot}
use Rattle.sysv_queue.specs.Represents.{Represents as SlotRepresents}
use Rattle.sysv_queue.specs.LegalReply.{IsLegalHistory}
use Rattle.sysv_keys.specs.Represents.{Represents as RegistryRepresents}
use Rattle.sysv_keys.specs.LegalReply.{IsLegalHistory as IsLegalRegistryHistory}
use Rattle.sysv_pool.specs.Represents.{Represents as PoolRepresents}
use Rattle.sysv_pool.specs.LegalReply.{IsLegalHistory as IsLegalPoolHistory}
use Rattle.sysv_objects.specs.LegalOp.{AreLegal}
use Rattle.sysv_gate.specs.declared.table.view.Turn.{Turn}
use Rattle.sysv_gate.specs.declared.gate.closing.Closing.{Closing}
use Rattle.sysv_gate.specs.History.{Moves, IsLegal, after_all}
use Rattle.sysv_gate.specs.Gates.{Gateway}
use Rattle.sysv_gate.specs.Orders.{turns_at}
use Rattle.sysv_gate.proofs.OrderByPlace.{turns_append, turns_here, turns_else, turns_none}
use Rattle.sysv_gate.proofs.Histories.{after_all-snoc}
use Rattle.sysv_bank.specs.Banks.{gates_of}
use Rattle.sysv_bank.specs.Closing.{ClosesInOrder}
use Rattle.sysv_service.specs.declared.kinds.Gated.{Gated}
use Rattle.sysv_objects.specs.declared.object.ObjectCall.{ObjectCall}
use Rattle.sysv_objects.specs.declared.object.ObjectReply.{ObjectReply}
use Rattle.sysv_objects.specs.SlotTurns.{SlotMoves}
use Rattle.sysv_service.specs.Counts.{slot_counts}
use Rattle.sysv_objects.specs.RegistryTurns.{RegistryMoves}
use Rattle.sysv_service.specs.Counts.{registry_counts}
use Rattle.sysv_objects.specs.PoolTurns.{PoolMoves}
use Rattle.sysv_service.specs.Counts.{pool_counts}
use Rattle.sysv_service.specs.ObjectKinds.{Kind, turn_as, gate_as}
use Rattle.sysv_service.specs.Gated.{IsSlot, IsRegistry, IsPool, slot_in, registry_in, pool_in, as_slot, as_registry}
use Rattle.sysv_service.specs.Gated.{as_pool, GatedMoves, gated_counts}
use Rattle.sysv_service.specs.Seats.{entries, slot_entry, registry_entry, pool_entry}
use Rattle.sysv_service.specs.Opened.{AreOpen}
use Rattle.sysv_service.specs.Banked.{AreSlots, AreByKind, gates_seen, seats_seen}
use Rattle.sysv_service.specs.Sharing.{LegalIfOpen}
use Rattle.sysv_service.specs.Order.{GatedTurn, GatedPlaced, GatedPass, opening_at, object_at, op_at, ops_after}
use Rattle.sysv_service.specs.Order.{ops_of}
use Rattle.sysv_service.specs.Ordered.{IsLegalOrder, OrdersAreOfTeams}
use Rattle.sysv_service.proofs.GateOfKind.{legal_as}
use Rattle.sysv_service.proofs.KindsKept.{keeps_slot, keeps_registry, keeps_pool}
use Rattle.sysv_service.proofs.Histories.{slot_on, registry_on, pool_on, pool_sized}
use Rattle.sysv_service.proofs.Ordered.{opens, sees, makes, splits, joins, closes, ends}
use Rattle.sysv_service.proofs.OrderedTurns.{answered}
use Rattle.sysv_service.proofs.PlacesShown.{gates_known}

same_place : (n k : ℕ) → n ≡ k → (n == k) ≡ true
same_place n k e = grind (arith, nat_tests)

other_place : (n k : ℕ) → n ≢ k → (n == k) ≡ false
other_place n k apart = grind (arith, nat_tests)

two_on : (a b : ℕ) → (suc (suc a) == suc (suc b)) ≡ (a == b)
two_on a b =
    dite (ℕ_discrete a b)
    (λ e. same_place (suc (suc a)) (suc (suc b)) (ap (λ n. suc (suc n)) e) ∙ sym (same_place a b e))
    (λ apart. other_place (suc (suc a)) (suc (suc b)) (λ e. apart (omega arith)) ∙ sym (other_place a b apart))

none_at : {E : Type 0} (e : E) (at place : ℕ) → at ≢ place → [] ≡ cond (at == place) (e ∷ []) []
none_at e at place apart = sym (ap (λ b. cond b (e ∷ []) []) (other_place at place apart))

-- ---- one more turn

turns_if : (place : ℕ) (t : GatedPlaced) (ts : List GatedPlaced) →
    turns_at place (t ∷ ts) ≡ turns_at place (t ∷ []) ++ turns_at place ts
turns_if place t ts = turns_append place (t ∷ []) ts

at_place : (place : ℕ) (t : GatedPlaced) → t.place ≡ place → turns_at place (t ∷ []) ≡ t.turn ∷ []
at_place place t e = ap (λ k. turns_at k (t ∷ [])) (sym e) ∙ turns_here t.place (t.turn ∷ [])

elsewhere : (place : ℕ) (t : GatedPlaced) → t.place ≢ place → turns_at place (t ∷ []) ≡ []
elsewhere place t apart = turns_else t.place place (λ e. apart (sym e)) (t.turn ∷ [])

module _ (gates : List (Gateway Gated)) where
  object_then : (place : ℕ) (earlier : List GatedPlaced) (t : GatedPlaced) → t.place ≡ place →
      object_at gates place (earlier ++ t ∷ []) ≡ t.turn.after
  object_then place earlier t e =
      ap (after_all (opening_at gates place))
      (turns_append place earlier (t ∷ []) ∙ ap (λ ts. turns_at place earlier ++ ts) (at_place place t e))
      ∙ after_all-snoc (opening_at gates place) (turns_at place earlier) t.turn

  object_still : (place : ℕ) (earlier : List GatedPlaced) (t : GatedPlaced) → t.place ≢ place →
      object_at gates place (earlier ++ t ∷ []) ≡ object_at gates place earlier
  object_still place earlier t apart =
      ap (after_all (opening_at gates place))
      (turns_append place earlier (t ∷ [])
      ∙ (ap (λ ts. turns_at place earlier ++ ts) (elsewhere place t apart) ∙ append-nil (turns_at place earlier)))

  -- ---- the history of the object at a place

  module _ {O C R E : Type 0} (place : ℕ) (kind : Kind Gated ObjectCall ObjectReply O C R) (entry : O → Turn O C R → E)
      (in_world : WorldTurn → List E) where
    -- What the turn adds to the history.
    abbrev Adds : Type 0
    Adds = (at : ℕ) (before : Gated) (t : GatedTurn) →
        in_world (turn_of (record { by = t.by; op = op_at at before t }))
        ≡ cond (at == place) (entry (kind.object before) (turn_as kind t) ∷ []) []

    abbrev entries_of : Gated → List GatedTurn → List E
    entries_of before ts = entries entry (kind.object before) (map (turn_as kind) ts)

    abbrev one_entry : Gated → GatedTurn → List E
    one_entry before t = entry (kind.object before) (turn_as kind t) ∷ []

    history : Adds → (earlier ts : List GatedPlaced) →
        flat_map in_world (turns_of (ops_after gates earlier ts))
        ≡ entries_of (object_at gates place earlier) (turns_at place ts)
    history adds earlier [] = refl
    history adds earlier (t ∷ ts) =
        let was : Gated = object_at gates t.place earlier in
        let first = adds t.place was t.turn in
        let rest = history adds (earlier ++ t ∷ []) ts in
        let later : List E = flat_map in_world (turns_of (ops_after gates (earlier ++ t ∷ []) ts)) in
        dite (ℕ_discrete t.place place)
        (λ e.
        let it : in_world (turn_of (record { by = t.turn.by; op = op_at t.place was t.turn }))
        ≡ one_entry (object_at gates place earlier) t.turn =
        first
        ∙ (ap (λ b. cond b (one_entry was t.turn) []) (same_place t.place place e)
        ∙ ap (λ k. one_entry (object_at gates k earlier) t.turn) e) in
        ap (λ es. es ++ later) it
        ∙ (ap (λ es. entry (kind.object (object_at gates place earlier)) (turn_as kind t.turn) ∷ es)
        (rest ∙ ap (λ o. entries_of o (turns_at place ts)) (object_then place earlier t e))
        ∙ ap (entries_of (object_at gates place earlier))
        (sym (turns_if place t ts ∙ ap (λ us. us ++ turns_at place ts) (at_place place t e)))))
        (λ apart.
        ap (λ es. es ++ later) (first ∙ ap (λ b. cond b (one_entry was t.turn) []) (other_place t.place place apart))
        ∙ (rest ∙ ap (λ o. entries_of o (turns_at place ts)) (object_still place earlier t apart)
        ∙ ap (entries_of (object_at gates place earlier))
        (sym (turns_if place t ts ∙ ap (λ us. us ++ turns_at place ts) (elsewhere place t apart)))))

  slot_adds : (slot : ℕ) →
      Adds (suc (suc slot)) as_slot slot_entry (λ (t : WorldTurn). world_slot_entry slot t.who t.op)
  slot_adds slot zero before t =
      none_at (slot_entry (slot_in before) (turn_as as_slot t)) zero (suc (suc slot)) (λ e. omega arith)
  slot_adds slot (suc zero) before t =
      none_at (slot_entry (slot_in before) (turn_as as_slot t)) (suc zero) (suc (suc slot)) (λ e. omega arith)
  slot_adds slot (suc (suc at)) before t =
      ap (λ b. cond b (slot_entry (slot_in before) (turn_as as_slot t) ∷ []) []) (sym (two_on at slot))

  registry_adds : Adds zero as_registry registry_entry (λ (t : WorldTurn). world_registry_entry t.who t.op)
  registry_adds zero before t = refl
  registry_adds (suc zero) before t =
      none_at (registry_entry (registry_in before) (turn_as as_registry t)) (suc zero) zero (λ e. omega arith)
  registry_adds (suc (suc at)) before t =
      none_at (registry_entry (registry_in before) (turn_as as_registry t)) (suc (suc at)) zero (λ e. omega arith)

  pool_adds : Adds (suc zero) as_pool pool_entry (λ (t : WorldTurn). world_pool_entry t.who t.op)
  pool_adds zero before t = none_at (pool_entry (pool_in before) (turn_as as_pool t)) zero (suc zero) (λ e. omega arith)
  pool_adds (suc zero) before t = refl
  pool_adds (suc (suc at)) before t =
      none_at (pool_entry (pool_in before) (turn_as as_pool t)) (suc (suc at)) (suc zero) (λ e. omega arith)

  pub slot_history_of : (slot : ℕ) (order : List GatedPlaced) →
      slot_history slot (turns_of (ops_of gates order))
      ≡ entries slot_entry (slot_in (opening_at gates (suc (suc slot))))
      (map (turn_as as_slot) (turns_at (suc (suc slot)) order))
  slot_history_of slot order = history (suc (suc slot)) as_slot slot_entry
      (λ (t : WorldTurn). world_slot_entry slot t.who t.op) (slot_adds slot) [] order

  pub registry_history_of : (order : List GatedPlaced) →
      registry_history (turns_of (ops_of gates order))
      ≡ entries registry_entry (registry_in (opening_at gates zero)) (map (turn_as as_registry) (turns_at zero order))
  registry_history_of order = history zero as_registry registry_entry
      (λ (t : WorldTurn). world_registry_entry t.who t.op) registry_adds [] order

  pub pool_history_of : (order : List GatedPlaced) →
      pool_history (turns_of (ops_of gates order))
      ≡ entries pool_entry (pool_in (opening_at gates (suc zero))) (map (turn_as as_pool) (turns_at (suc zero) order))
  pool_history_of order =
      history (suc zero) as_pool pool_entry (λ (t : WorldTurn). world_pool_entry t.who t.op) pool_adds [] order

-- ---- legal turns

-- The slots were vacant.
vacant_at : (ss : List (Gateway Gated)) (k : ℕ) (g : Gateway Gated)
    → All (SlotRepresents []) (map (λ (g : Gateway Slot). g.opening) (map (gate_as as_slot) ss)) → AreSlots ss
    → get_elem? ss k ≡ some g
    → (opening_at ss k ≡ g.opening) × IsSlot g.opening × SlotRepresents [] (slot_in g.opening)
vacant_at [] k g vacant slots at = absurd (some-ne-none g (sym at))
vacant_at (s ∷ ss) zero g vacant slots at =
    let e : s ≡ g = some-injective s g at in
    let first = All-head (SlotRepresents []) (slot_in s.opening)
    (map (λ (g : Gateway Slot). g.opening) (map (gate_as as_slot) ss)) vacant in (
      ap (λ (x : Gateway Gated). x.opening) e,
      subst (λ (x : Gateway Gated). IsSlot x.opening) e slots.0,
      subst (λ (x : Gateway Gated). SlotRepresents [] (slot_in x.opening)) e first,
    )
vacant_at (s ∷ ss) (suc k) g vacant slots at =
    vacant_at ss k g
    (All-tail (SlotRepresents []) (slot_in s.opening) (map (λ (g : Gateway Slot). g.opening) (map (gate_as as_slot) ss))
    vacant) slots.1 at

no_turn_is_legal : IsLegalHistory []
no_turn_is_legal [] e after is = cc
no_turn_is_legal (x ∷ xs) e after is = cc

abbrev Turns : Gated → List GatedTurn → Type 0
Turns = IsLegal (Moves GatedMoves gated_counts)

slot_legal : (o : Gated) (ts : List GatedTurn) → IsSlot o → SlotRepresents [] (slot_in o) → Turns o ts →
    IsLegalHistory (entries slot_entry (slot_in o) (map (turn_as as_slot) ts))
slot_legal o ts is stands legal =
    (slot_on [] (slot_in o) (map (turn_as as_slot) ts) stands
    (legal_as as_slot IsSlot (Moves GatedMoves gated_counts) gated_counts (Moves SlotMoves slot_counts) slot_counts
    keeps_slot o ts is legal)).legal

registry_legal : (generation : ℕ) (o : Gated) (ts : List GatedTurn) → IsRegistry o →
    RegistryRepresents generation [] (registry_in o) → Turns o ts →
    IsLegalRegistryHistory generation (entries registry_entry (registry_in o) (map (turn_as as_registry) ts))
registry_legal generation o ts is stands legal =
    (registry_on generation [] (registry_in o) (map (turn_as as_registry) ts) stands
    (legal_as as_registry IsRegistry (Moves GatedMoves gated_counts) gated_counts (Moves RegistryMoves registry_counts)
    registry_counts keeps_registry o ts is legal)).legal

pool_legal : (blocks : ℕ) (o : Gated) (ts : List GatedTurn) → IsPool o → PoolRepresents [] (pool_in o) →
    (pool_in o).size ≡ blocks → Turns o ts →
    IsLegalPoolHistory blocks (entries pool_entry (pool_in o) (map (turn_as as_pool) ts))
pool_legal blocks o ts is stands many legal =
    let went = legal_as as_pool IsPool (Moves GatedMoves gated_counts) gated_counts (Moves PoolMoves pool_counts)
    pool_counts keeps_pool o ts is legal in
    subst (λ n. IsLegalPoolHistory n (entries pool_entry (pool_in o) (map (turn_as as_pool) ts)))
    (pool_sized (pool_in o) (map (turn_as as_pool) ts) went ∙ many)
    (pool_on [] (pool_in o) (map (turn_as as_pool) ts) stands went).legal

legal : (generation blocks first : ℕ) (gates : List (Gateway Gated)) (order : List GatedPlaced) → AreByKind gates →
    AreOpen generation blocks first (gates_seen gates) → IsLegalOrder gates order →
    AreLegal generation blocks (turns_of (ops_of gates order))
legal generation blocks first [] order kinds fresh l = absurd kinds
legal generation blocks first (r ∷ []) order kinds fresh l = absurd kinds
legal generation blocks first (r ∷ p ∷ ss) order kinds fresh l =
    let gates : List (Gateway Gated) = r ∷ p ∷ ss in
    record {
      slots = λ slot.
          subst IsLegalHistory (sym (slot_history_of gates slot order))
          (dite (dec_le (suc slot) (length ss))
          (λ less.
          let g = there ss slot less in
          let v = vacant_at ss slot g.0 fresh.slots.1 kinds.2 g.1 in
          subst (λ o.
          IsLegalHistory (entries slot_entry (slot_in o) (map (turn_as as_slot) (turns_at (suc (suc slot)) order))))
          (sym v.0)
          (slot_legal g.0.opening (turns_at (suc (suc slot)) order) v.1 v.2 (l.each (suc (suc slot)) g.0 g.1)))
          (λ far.
          let beyond = lt_of_not-le far in
          subst (λ ts. IsLegalHistory (entries slot_entry (slot_in (opening_at ss slot)) (map (turn_as as_slot) ts)))
          (sym (turns_none (length gates) (suc (suc slot)) order l.below (omega arith)))
          no_turn_is_legal));
      registry =
          subst (IsLegalRegistryHistory generation) (sym (registry_history_of gates order))
          (registry_legal generation r.opening (turns_at zero order) kinds.0 fresh.registry.0 (l.each zero r refl));
      pool =
          subst (IsLegalPoolHistory blocks) (sym (pool_history_of gates order))
          (pool_legal blocks p.opening (turns_at (suc zero) order) kinds.1 fresh.pool.0 fresh.pool.1
          (l.each (suc zero) p refl));
    }

pub order_legal : (last : GatedPass) (closings : List (Closing Gated)) → AreByKind (gates_of last.seats) →
    length closings ≡ length last.seats → (c : ClosesInOrder (Moves GatedMoves gated_counts) last closings) →
    LegalIfOpen (seats_seen last) (ops_of (gates_of last.seats) c.order)
order_legal last closings kinds many c generation blocks first gates fresh fit =
    legal generation blocks first (gates_of last.seats) c.order kinds
    (subst (AreOpen generation blocks first) (sym (gates_known last gates fit)) fresh) (ends last closings many c)

pub orders_are_of_teams : OrdersAreOfTeams
orders_are_of_teams = record {
  opens = opens;
  sees = sees;
  makes = makes;
  answered = answered;
  splits = splits;
  joins = joins;
  closes = closes;
  ends = ends;
  legal = legal;
}
