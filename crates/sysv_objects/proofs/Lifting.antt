-- A turn at a slot, at the registry or at the pool is a turn at the objects.
use Rattle.std.proofs.Common.{◌≡◌, ℕ, ◌+◌, ◌≤◌, cond, None, Ok, Err, List, [], ◌∷◌, ◌++◌, Some, inl, inr, refl, sym, ap}
use Rattle.std.proofs.Common.{subst, ◌∙◌, arith, slice_get, slice_set, length-set}
use Rattle.sysv_model.specs.History.{Who, Actor, Call, Reply, Entry}
use Rattle.sysv_model.specs.Registry.{RegistryCall, RegistryReply}
use Rattle.sysv_model.specs.Pool.{PoolEntry, frees as is_release, released}
use Rattle.sysv_model.specs.Turn.{Op, AtSlot, AtRegistry, AtPool, Turn, slot_history, registry_history, pool_history}
use Rattle.sysv_queue.specs.Slot.{Slot}
use Rattle.sysv_queue.specs.LegalReply.{Legal}
use Rattle.sysv_queue.specs.Represents.{Represents as SlotRepresents, MakesTurn as SlotMakesTurn}
use Rattle.sysv_pool.specs.State.{State as Pool}
use Rattle.sysv_pool.specs.Represents.{Represents as PoolRepresents}
use Rattle.sysv_pool.specs.LegalReply.{Legal as LegalAtPool}
use Rattle.sysv_keys.specs.LegalReply.{Legal as LegalAtRegistry}
use Rattle.sysv_keys.specs.State.{Registry}
use Rattle.sysv_keys.specs.Represents.{Represents as RegistryRepresents, MakesTurn as RegistryMakesTurn}
use Rattle.std.proofs.lemmas.List.Sums.{sum_by-append}
use Rattle.sysv_objects.specs.declared.pool.PoolCall.{PoolCall as Asked}
use Rattle.sysv_objects.specs.declared.pool.PoolCall.TheVariants as asked
use Rattle.sysv_objects.specs.declared.pool.PoolReply.{PoolReply as Told}
use Rattle.sysv_objects.specs.declared.pool.PoolReply.TheVariants as told
use Rattle.sysv_objects.specs.PoolTurns.{pool_call, pool_reply, FitsPoolCall, PoolMoves}
use Rattle.sysv_objects.specs.LegalOp.{IsLegalOp}
use Rattle.sysv_objects.specs.Objects.{Objects, raises, pool_raises}
use Rattle.sysv_objects.specs.Represents.{Represents, Stand, MakesTurn}
use Rattle.sysv_objects.proofs.Lists.{get_set}
use Rattle.sysv_objects.proofs.Histories.{turn_of, at_its_slot, at_another, registry_more, not_at_registry, not_at_slot}
use Rattle.sysv_objects.proofs.Histories.{slot_not_at_pool, registry_not_at_pool, pool_not_at_slot}
use Rattle.sysv_objects.proofs.Histories.{pool_not_at_registry, pool_more, arrives, frees}

-- The objects with another slot at this number, with another registry, and with another pool.
abbrev pub with_slot : Objects → ℕ → Slot → Objects
with_slot objects number slot =
    record { slots = slice_set objects.slots number slot; registry = objects.registry; pool = objects.pool }

abbrev pub with_registry : Objects → Registry → Objects
with_registry objects registry = record { slots = objects.slots; registry = registry; pool = objects.pool }

abbrev pub with_pool : Objects → Pool → Objects
with_pool objects pool = record { slots = objects.slots; registry = objects.registry; pool = pool }

-- Objects that represent some turns before a turn represent some turns after it.
pub stand_on : (old new : Objects) (op : Op) → Stand old → MakesTurn old op new → Stand new
stand_on old new op st turn = (st.0, st.1 ++ turn_of (Actor 0 0) op ∷ [], turn.stands st.0 st.1 (Actor 0 0) st.2)

-- ---- at a slot

module _ (old : Objects) (number : ℕ) (was new : Slot) (call : Call) (reply : Reply)
    (there : slice_get old.slots number ≡ Some was) (turn : SlotMakesTurn was call reply new) where
  legal_there : (generation : ℕ) (turns : List Turn) → Represents generation turns old →
      IsLegalOp generation old.pool.size turns (AtSlot number call reply)
  legal_there generation turns st = subst (λ s. Legal s call reply) (sym (st.slots number was there).seen) turn.legal

  stands_there : (generation : ℕ) (turns : List Turn) (who : Who) → Represents generation turns old →
      Represents generation (turns ++ turn_of who (AtSlot number call reply) ∷ []) (with_slot old number new)
  stands_there generation turns who st = record {
    many = length-set old.slots number new ∙ st.many;
    slots = λ at slot here. elim (get_set old.slots number at new slot here) [
      | inl same ↦
          subst (SlotRepresents _) same.1
          (subst (λ n. SlotRepresents (slot_history n (turns ++ turn_of who (AtSlot number call reply) ∷ [])) new)
          same.0
          (subst (λ h. SlotRepresents h new) (sym (at_its_slot number turns who call reply))
          (turn.stands (slot_history number turns) who (st.slots number was there))))
      | inr apart ↦ subst (λ h. SlotRepresents h slot) (sym (at_another at number turns who call reply apart.0))
          (st.slots at slot apart.1)
    ];
    registry = subst (λ h. RegistryRepresents generation h old.registry)
        (sym (not_at_registry turns who number call reply)) st.registry;
    pool = subst (λ h. PoolRepresents h old.pool) (sym (slot_not_at_pool turns who number call reply)) st.pool;
  }

  rises_there : Stand old → (new.arrived ≤ was.arrived + raises call) × (new.freed ≤ was.freed + raises call)
  rises_there st =
      let h = slot_history number st.1 in
      let before = st.2.slots number was there in
      let after = turn.stands h (Actor 0 0) before in
      let e : Entry = record { who = Actor 0 0; call = call; reply = reply } in
      let a0 = ap (λ (s : Slot). s.arrived) before.seen in
      let a1 = ap (λ (s : Slot). s.arrived) after.seen in
      let f0 = ap (λ (s : Slot). s.freed) before.seen in
      let f1 = ap (λ (s : Slot). s.freed) after.seen in
      (omega (arith, arrives h e), omega (arith, frees h e))

  pub at_slot : Stand old → MakesTurn old (AtSlot number call reply) (with_slot old number new)
  at_slot st = record {
    legal = legal_there;
    stands = stands_there;
    size = refl;
    counts = λ bound up. (
      λ at slot here. elim (get_set old.slots number at new slot here) [
        | inl same ↦
            let was_up = up.0 number was there in
            let rise = rises_there st in
            subst (λ (s : Slot). (s.arrived ≤ bound + raises call) × (s.freed ≤ bound + raises call)) same.1
            (omega (arith, was_up.0, rise.0), omega (arith, was_up.1, rise.1))
        | inr apart ↦ let still = up.0 at slot apart.1 in (omega (arith, still.0), omega (arith, still.1))
      ],
      omega (arith, up.1),
    );
  }

-- ---- at the registry

pub at_registry : (old : Objects) (new : Registry) (call : RegistryCall) (reply : RegistryReply) →
    RegistryMakesTurn old.registry call reply new →
    MakesTurn old (AtRegistry call reply) (with_registry old new)
at_registry old new call reply turn = record {
  legal = λ generation turns st. subst (λ r. LegalAtRegistry r call reply) (sym st.registry.seen) turn.legal;
  stands = λ generation turns who st. record {
    many = st.many;
    slots = λ at slot here.
        subst (λ h. SlotRepresents h slot) (sym (not_at_slot at turns who call reply)) (st.slots at slot here);
    registry = subst (λ h. RegistryRepresents generation h new) (sym (at_the_registry turns who))
        (turn.stands generation (registry_history turns) who st.registry);
    pool = subst (λ h. PoolRepresents h old.pool) (sym (registry_not_at_pool turns who call reply)) st.pool;
  };
  size = refl;
  counts = λ bound up. (
    λ at slot here. let still = up.0 at slot here in (omega (arith, still.0), omega (arith, still.1)),
    omega (arith, up.1),
  );
}
  where
    at_the_registry : (turns : List Turn) (who : Who) →
        registry_history (turns ++ turn_of who (AtRegistry call reply) ∷ [])
        ≡ registry_history turns ++ record { who = who; call = call; reply = reply } ∷ []
    at_the_registry turns who = registry_more turns (turn_of who (AtRegistry call reply))

-- ---- at the pool

-- Only a release raises the released count.
releases : (call : Asked) (reply : Told) → FitsPoolCall call reply →
    cond (is_release (pool_reply reply)) 1 0 ≤ pool_raises (pool_call call)
releases (asked.Reserve size) (told.Reserved None) fits = omega arith
releases (asked.Reserve size) (told.Reserved (Some chain)) fits = omega arith
releases (asked.Reserve size) (told.Released done) fits = absurd fits
releases (asked.Release chain) (told.Released (Ok done)) fits = omega arith
releases (asked.Release chain) (told.Released (Err back)) fits = omega arith
releases (asked.Release chain) (told.Reserved some) fits = absurd fits

released_rises : (old : Objects) (new : Pool) (call : Asked) (reply : Told) → PoolMoves old.pool call reply new →
    Stand old → new.released ≤ old.pool.released + pool_raises (pool_call call)
released_rises old new call reply moves st =
    let h = pool_history st.1 in
    let e : PoolEntry = record { who = Actor 0 0; call = pool_call call; reply = pool_reply reply } in
    let after = moves.turn.stands h (Actor 0 0) st.2.pool in
    let was : released h ≡ old.pool.released = ap (λ (p : Pool). p.released) st.2.pool.seen in
    let is : released (h ++ e ∷ []) ≡ new.released = ap (λ (p : Pool). p.released) after.seen in
    let more = sum_by-append (λ (t : PoolEntry). cond (is_release t.reply) 1 0) h (e ∷ []) in
    omega (arith, was, is, more, releases call reply moves.fits)

pub at_pool : (old : Objects) (new : Pool) (call : Asked) (reply : Told) → PoolMoves old.pool call reply new →
    Stand old → MakesTurn old (AtPool (pool_call call) (pool_reply reply)) (with_pool old new)
at_pool old new asks told moves stand =
    let call = pool_call asks in
    let reply = pool_reply told in
    let rise = released_rises old new asks told moves stand in
    record {
      legal = λ generation turns st. subst (λ p. LegalAtPool p call reply) (sym st.pool.seen) moves.turn.legal;
      stands = λ generation turns who st. record {
        many = st.many;
        slots = λ at slot here.
            subst (λ h. SlotRepresents h slot) (sym (pool_not_at_slot at turns who call reply)) (st.slots at slot here);
        registry = subst (λ h. RegistryRepresents generation h old.registry)
            (sym (pool_not_at_registry turns who call reply)) st.registry;
        pool = subst (λ h. PoolRepresents h new) (sym (pool_more turns (turn_of who (AtPool call reply))))
            (moves.turn.stands (pool_history turns) who st.pool);
      };
      size = moves.size;
      counts = λ bound up. (
        λ at slot here. let still = up.0 at slot here in (omega (arith, still.0), omega (arith, still.1)),
        omega (arith, up.1, rise),
      );
    }
