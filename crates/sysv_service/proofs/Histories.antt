-- What a seat has seen, as a history of the object.
use Rattle.std.proofs.Common.{◌≡◌, ℕ, List, [], ◌∷◌, ◌++◌, refl, sym, ap, subst, ◌∙◌}
use Rattle.std.proofs.lemmas.List.{append-nil, append_assoc}
use Rattle.sysv_model.specs.History.{Seat, History}
use Rattle.sysv_model.specs.Registry.{RegistryHistory}
use Rattle.sysv_model.specs.Pool.{PoolHistory}
use Rattle.sysv_queue.specs.Slot.{Slot}
use Rattle.sysv_keys.specs.State.{Registry}
use Rattle.sysv_keys.specs.Represents.{Represents as RegistryRepresents}
use Rattle.sysv_pool.specs.State.{State}
use Rattle.sysv_pool.specs.Represents.{Represents as PoolRepresents}
use Rattle.sysv_queue.specs.Represents.{Represents as SlotRepresents}
use Rattle.sysv_gate.specs.declared.table.view.Turn.{Turn}
use Rattle.sysv_gate.specs.History.{Moves, IsLegal, after_all}
use Rattle.sysv_gate.specs.Gates.{Holding}
use Rattle.sysv_objects.specs.declared.slot.SlotCall.{SlotCall}
use Rattle.sysv_objects.specs.declared.slot.SlotReply.{SlotReply}
use Rattle.sysv_objects.specs.declared.registry.RegistryCall.{RegistryCall}
use Rattle.sysv_objects.specs.declared.registry.RegistryReply.{RegistryReply}
use Rattle.sysv_objects.specs.declared.pool.PoolCall.{PoolCall}
use Rattle.sysv_objects.specs.declared.pool.PoolReply.{PoolReply}
use Rattle.sysv_objects.specs.SlotTurns.{SlotMoves}
use Rattle.sysv_service.specs.Counts.{slot_counts}
use Rattle.sysv_objects.specs.RegistryTurns.{RegistryMoves}
use Rattle.sysv_service.specs.Counts.{registry_counts}
use Rattle.sysv_objects.specs.PoolTurns.{PoolMoves}
use Rattle.sysv_service.specs.Counts.{pool_counts}
use Rattle.sysv_service.specs.Seats.{entries, slot_entry, registry_entry, pool_entry, TakesTurn}
use Rattle.sysv_service.specs.SeenHistories.{SeenHistories, OwnTurnsAreLast}

-- ---- the objects represent what was seen

pub slot_on : (h : History) (slot : Slot) (ts : List (Turn Slot SlotCall SlotReply)) → SlotRepresents h slot →
    IsLegal (Moves SlotMoves slot_counts) slot ts → SlotRepresents (h ++ entries slot_entry slot ts) (after_all slot ts)
slot_on h slot [] st legal = subst (λ x. SlotRepresents x slot) (sym (append-nil h)) st
slot_on h slot (t ∷ ts) st legal =
    subst (λ x. SlotRepresents x (after_all t.after ts))
    (append_assoc h (slot_entry slot t ∷ []) (entries slot_entry t.after ts))
    (slot_on (h ++ slot_entry slot t ∷ []) t.after ts (legal.0.0.turn.stands h (Seat t.by) st) legal.1)

pub registry_on : (generation : ℕ) (h : RegistryHistory) (registry : Registry)
    (ts : List (Turn Registry RegistryCall RegistryReply)) → RegistryRepresents generation h registry →
    IsLegal (Moves RegistryMoves registry_counts) registry ts →
    RegistryRepresents generation (h ++ entries registry_entry registry ts) (after_all registry ts)
registry_on generation h registry [] st legal =
    subst (λ x. RegistryRepresents generation x registry) (sym (append-nil h)) st
registry_on generation h registry (t ∷ ts) st legal =
    subst (λ x. RegistryRepresents generation x (after_all t.after ts))
    (append_assoc h (registry_entry registry t ∷ []) (entries registry_entry t.after ts))
    (registry_on generation (h ++ registry_entry registry t ∷ []) t.after ts
    (legal.0.0.turn.stands generation h (Seat t.by) st) legal.1)

pub pool_on : (h : PoolHistory) (pool : State) (ts : List (Turn State PoolCall PoolReply)) → PoolRepresents h pool →
    IsLegal (Moves PoolMoves pool_counts) pool ts → PoolRepresents (h ++ entries pool_entry pool ts) (after_all pool ts)
pool_on h pool [] st legal = subst (λ x. PoolRepresents x pool) (sym (append-nil h)) st
pool_on h pool (t ∷ ts) st legal =
    subst (λ x. PoolRepresents x (after_all t.after ts))
    (append_assoc h (pool_entry pool t ∷ []) (entries pool_entry t.after ts))
    (pool_on (h ++ pool_entry pool t ∷ []) t.after ts (legal.0.0.turn.stands h (Seat t.by) st) legal.1)

-- The pool keeps its size.
pub pool_sized : (pool : State) (ts : List (Turn State PoolCall PoolReply)) →
    IsLegal (Moves PoolMoves pool_counts) pool ts → (after_all pool ts).size ≡ pool.size
pool_sized pool [] legal = refl
pool_sized pool (t ∷ ts) legal = pool_sized t.after ts legal.1 ∙ legal.0.0.size

pub seen_histories : SeenHistories
seen_histories = record {
  slots = λ seat st legal. slot_on [] seat.gate.opening seat.seen st legal;
  registry = λ generation seat st legal. registry_on generation [] seat.gate.opening seat.seen st legal;
  pool = λ seat st legal. pool_on [] seat.gate.opening seat.seen st legal;
}

-- ---- a turn of the seat's own is the last

module _ {O C R E : Type 0} (entry : O → Turn O C R → E) where
  two_parts : (o : O) (xs ys : List (Turn O C R)) →
      entries entry o (xs ++ ys) ≡ entries entry o xs ++ entries entry (after_all o xs) ys
  two_parts o [] ys = refl
  two_parts o (x ∷ xs) ys = ap (λ es. entry o x ∷ es) (two_parts x.after xs ys)

  abbrev seen_by : Holding O C R → List E
  seen_by h = entries entry h.gate.opening h.seen

  own_is_last : (moves : O → C → R → O → Type 0) (counted : O → ℕ × ℕ) (e : E) (before after : Holding O C R) →
      TakesTurn moves counted entry e before after →
      (others : List E) × (seen_by after ≡ (seen_by before ++ others) ++ e ∷ [])
  own_is_last moves counted e before after took =
      let a = took.answers in
      let o = before.gate.opening in
      let t : Turn O C R = record { by = before.number; call = took.call; reply = took.reply; after = a.object } in
      let others = entries entry (after_all o before.seen) a.others in
      let whole = two_parts o (before.seen ++ a.others) (t ∷ []) in
      let front = two_parts o before.seen a.others in (
        others,
        ap seen_by a.made
            ∙ (whole
            ∙ (ap (λ es. es ++ entry (after_all o (before.seen ++ a.others)) t ∷ []) front
            ∙ ap (λ x. (seen_by before ++ others) ++ x ∷ []) took.entered)),
      )

pub own_turns_are_last : OwnTurnsAreLast
own_turns_are_last = record {
  slots = λ before after e took. own_is_last slot_entry SlotMoves slot_counts e before after took;
  registry = λ before after e took. own_is_last registry_entry RegistryMoves registry_counts e before after took;
  pool = λ before after e took. own_is_last pool_entry PoolMoves pool_counts e before after took;
}
