-- A turn that the code makes at one of the objects.
use Rattle.std.proofs.Common.{◌≡◌, ◌≢◌, ℕ, ℤ, [], ◌<◌, ◌≤◌, List, Some, refl, sym, ap, subst, ◌∙◌, arith, length}
use Rattle.std.proofs.Common.{get_or, slice_get, slice_set, w32, of_z, to_z, FitsSigned}
use Rattle.std.specs.List.{All}
use Rattle.std.proofs.lemmas.Int.{to_z-of_z}
use Rattle.std.proofs.lemmas.List.{set-get_or}
use Rattle.std.proofs.lemmas.Option.{slice_get_read, slice_get_within, get_or_from_slice_get}
use Rattle.sysv_model.specs.History.{Call, Reply, arrived, freed}
use Rattle.sysv_model.specs.Registry.{RegistryCall, RegistryReply}
use Rattle.sysv_model.specs.Turn.{AtSlot, AtRegistry, AtPool, Turn, slot_history}
use Rattle.sysv_keys.specs.declared.identifier.TheConstants.{SLOTS}
use Rattle.sysv_keys.specs.Identifier.{slot_of_id}
use Rattle.sysv_keys.specs.State.{Registry}
use Rattle.sysv_keys.specs.Represents.{Represents as RegistryRepresents, MakesTurn as RegistryMakesTurn}
use Rattle.sysv_pool.specs.State.{State as Pool}
use Rattle.sysv_pool.specs.Represents.{Represents as PoolRepresents}
use Rattle.sysv_queue.specs.Slot.{Slot}
use Rattle.sysv_queue.specs.Represents.{Represents as SlotRepresents, MakesTurn as SlotMakesTurn}
use Rattle.sysv_objects.specs.declared.pool.PoolCall.{PoolCall as AskedOfPool}
use Rattle.sysv_objects.specs.declared.pool.PoolReply.{PoolReply as ToldByPool}
use Rattle.sysv_objects.specs.PoolTurns.{pool_call, pool_reply, PoolMoves}
use Rattle.sysv_objects.specs.Objects.{Objects, CountsUpTo}
use Rattle.sysv_objects.specs.Represents.{Represents, Stand, AreVacant, MakesTurn}
use Rattle.sysv_objects.proofs.Lists.{get_beside}
use Rattle.sysv_objects.proofs.Lifting.{stand_on, at_slot, at_registry, at_pool}

abbrev pub objects_of : List Slot → Registry → Pool → Objects
objects_of slots registry pool = record { slots = slots; registry = registry; pool = pool }

-- The code computes the slot from the bits of an identifier.
pub its_slot : (place : ℕ) (id : ℤ) → FitsSigned w32 id → place ≡ slot_of_id (to_z w32 (of_z w32 id)) →
    place ≡ slot_of_id id
its_slot place id fits is = is ∙ ap slot_of_id (to_z-of_z w32 id fits)

module _ (items : List Slot) (registry : Registry) (pool : Pool) (seen : Objects)
    (view : objects_of items registry pool ≡ seen) (st : Stand (objects_of items registry pool))
    (place number : ℕ) (its : place ≡ number) (within : place < SLOTS) (was : Slot)
    (read : was ≡ get_or items place was) where
  there : slice_get items place ≡ Some was
  there = let many = st.2.many in slice_get_read items (length items) place was refl (omega (arith, many)) read

  pub turned : (new : Slot) (call : Call) (reply : Reply) → SlotMakesTurn was call reply new →
      MakesTurn seen (AtSlot number call reply) (objects_of (slice_set items place new) registry pool)
  turned new call reply turn =
      subst (λ n. MakesTurn seen (AtSlot n call reply) (objects_of (slice_set items place new) registry pool)) its
      (subst (λ old. MakesTurn old (AtSlot place call reply) (objects_of (slice_set items place new) registry pool))
      view
      (at_slot (objects_of items registry pool) place was new call reply there turn st))

  pub stand_still : (new : Slot) (call : Call) (reply : Reply) → SlotMakesTurn was call reply new →
      Stand (objects_of (slice_set items place new) registry pool)
  stand_still new call reply turn =
      stand_on (objects_of items registry pool) (objects_of (slice_set items place new) registry pool)
      (AtSlot place call reply) st
      (at_slot (objects_of items registry pool) place was new call reply there turn st)

  -- If the slot is unchanged, the objects are unchanged.
  pub left : (new : Slot) → new ≡ was → objects_of (slice_set items place new) registry pool ≡ seen
  left new same =
      ap (λ slots. objects_of slots registry pool)
      (ap (slice_set items place) (same ∙ read) ∙ set-get_or items place was) ∙ view

  pub beside : (new : Slot) (other : ℕ) → other ≢ number →
      slice_get (slice_set items place new) other ≡ slice_get seen.slots other
  beside new other apart =
      get_beside items place other new (λ same. apart (same ∙ its)) ∙ ap (λ (o : Objects). slice_get o.slots other) view

  pub low : (bound : ℕ) → CountsUpTo bound seen → (was.arrived ≤ bound) × (was.freed ≤ bound)
  low bound up = up.0 place was (ap (λ (o : Objects). slice_get o.slots place) (sym view) ∙ there)

  pub counted : (generation : ℕ) (turns : List Turn) → Represents generation turns seen →
      (was.arrived ≡ arrived (slot_history number turns)) × (was.freed ≡ freed (slot_history number turns))
  counted generation turns s =
      let one = s.slots place was (ap (λ (o : Objects). slice_get o.slots place) (sym view) ∙ there) in
      let h = λ (n : ℕ). slot_history n turns in (
        sym (ap (λ (x : Slot). x.arrived) one.seen) ∙ ap (λ n. arrived (h n)) its,
        sym (ap (λ (x : Slot). x.freed) one.seen) ∙ ap (λ n. freed (h n)) its,
      )

pub turned_at_registry : (items : List Slot) (registry : Registry) (pool : Pool) (seen : Objects) →
    objects_of items registry pool ≡ seen → (new : Registry) (call : RegistryCall) (reply : RegistryReply) →
    RegistryMakesTurn registry call reply new → MakesTurn seen (AtRegistry call reply) (objects_of items new pool)
turned_at_registry items registry pool seen view new call reply turn =
    subst (λ old. MakesTurn old (AtRegistry call reply) (objects_of items new pool)) view
    (at_registry (objects_of items registry pool) new call reply turn)

module _ (items : List Slot) (registry : Registry) (pool : Pool) (new : Pool) (call : AskedOfPool) (reply : ToldByPool)
    (moves : PoolMoves pool call reply new) (st : Stand (objects_of items registry pool)) where
  pub turned_at_pool : (seen : Objects) → objects_of items registry pool ≡ seen →
      MakesTurn seen (AtPool (pool_call call) (pool_reply reply)) (objects_of items registry new)
  turned_at_pool seen view =
      subst (λ old. MakesTurn old (AtPool (pool_call call) (pool_reply reply)) (objects_of items registry new)) view
      (at_pool (objects_of items registry pool) new call reply moves st)

  pub stand_at_pool : Stand (objects_of items registry new)
  stand_at_pool = stand_on (objects_of items registry pool) (objects_of items registry new)
      (AtPool (pool_call call) (pool_reply reply)) st (at_pool (objects_of items registry pool) new call reply moves st)

-- ---- the opening

zero_counts : (slot : Slot) → SlotRepresents [] slot → (slot.arrived ≤ 0) × (slot.freed ≤ 0)
zero_counts slot st =
    let a = ap (λ (s : Slot). s.arrived) st.seen in
    let f = ap (λ (s : Slot). s.freed) st.seen in
    (omega arith, omega arith)

all_vacant : (slots : List Slot) → All (SlotRepresents []) slots → (number : ℕ) (slot : Slot) →
    slice_get slots number ≡ Some slot → SlotRepresents [] slot
all_vacant slots all number slot e = subst (SlotRepresents []) (get_or_from_slice_get slots number slot slot e)
    (all number slot (slice_get_within slots number slot e))

pub opened : (generation : ℕ) (slots : List Slot) (registry : Registry) (pool : Pool) → AreVacant slots →
    RegistryRepresents generation [] registry → PoolRepresents [] pool →
    Represents generation [] (objects_of slots registry pool)
opened generation slots registry pool vacant r p =
    record { many = vacant.0; slots = all_vacant slots vacant.1; registry = r; pool = p }

pub opened_counts : (slots : List Slot) (registry : Registry) (pool : Pool) → AreVacant slots → PoolRepresents [] pool →
    CountsUpTo 0 (objects_of slots registry pool)
opened_counts slots registry pool vacant p =
    let none = ap (λ (x : Pool). x.released) p.seen in
    (λ number slot here. zero_counts slot (all_vacant slots vacant.1 number slot here), omega (arith, none))
