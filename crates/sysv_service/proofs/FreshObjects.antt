-- A bank that is opened with fresh objects.
use Rattle.std.proofs.Common.{◌≡◌, ℕ, zero, suc, ◌+◌, ◌≤◌, ◌^◌, List, [], ◌∷◌, ◌++◌, map, length, refl, sym, ap, subst}
use Rattle.std.proofs.Common.{◌∙◌, arith}
use Rattle.std.specs.List.{All}
use Rattle.std.proofs.lemmas.List.{length-map, length-append}
use Rattle.sysv_model.specs.Members.{first_with}
use Rattle.sysv_keys.specs.declared.identifier.TheConstants.{SLOTS}
use Rattle.sysv_keys.specs.State.{State as RegistryState}
use Rattle.sysv_keys.specs.Represents.{Represents as RegistryRepresents}
use Rattle.sysv_pool.specs.Represents.{Represents as PoolRepresents}
use Rattle.sysv_queue.specs.Slot.{Slot}
use Rattle.sysv_queue.specs.Represents.{Represents as SlotRepresents}
use Rattle.sysv_gate.specs.History.{AreUpTo}
use Rattle.sysv_gate.specs.Gates.{Gateway, opened}
use Rattle.sysv_bank.specs.Banks.{AreOpened}
use Rattle.sysv_service.specs.declared.kinds.Gated.{Gated}
use Rattle.sysv_service.specs.declared.kinds.Gated.TheVariants as gated
use Rattle.sysv_service.specs.Counts.{slot_counts}
use Rattle.sysv_service.specs.Counts.{pool_counts}
use Rattle.sysv_service.specs.Gated.{IsSlot, IsRegistry, IsPool, slot_in, registry_in, pool_in, as_slot, as_registry}
use Rattle.sysv_service.specs.Gated.{as_pool, gated_counts}
use Rattle.sysv_service.specs.ObjectKinds.{gate_as, seat_as}
use Rattle.sysv_service.specs.Seats.{SlotSeat, Seats}
use Rattle.sysv_service.specs.Opened.{AreOpen, all_opened}
use Rattle.sysv_service.specs.Fresh.{AreVacantSlots, AreFreshUpTo, AreFresh}
use Rattle.sysv_service.specs.Banked.{AreSlots, AreByKind, gates_seen, seats_at}

all_none : {A : Type 0} (P : A → Type 0) → All P []
all_none P k d less = absurd (omega arith)

all_one : {A : Type 0} (P : A → Type 0) (x : A) (xs : List A) → P x → All P xs → All P (x ∷ xs)
all_one P x xs p all zero d less = p
all_one P x xs p all (suc k) d less = all k d (omega arith)

all_tail : {A : Type 0} (P : A → Type 0) (x : A) (xs : List A) → All P (x ∷ xs) → All P xs
all_tail P x xs all k d less = all (suc k) d (omega arith)

all_head : {A : Type 0} (P : A → Type 0) (x : A) (xs : List A) → All P (x ∷ xs) → P x
all_head P x xs all = all 0 x (omega arith)

-- ---- the counts of fresh objects are 0

slot_low : (o : Gated) → IsSlot o → SlotRepresents [] (slot_in o) → AreUpTo (2 ^ 61) (gated_counts o)
slot_low (gated.Slot s) is stands = subst (λ x. AreUpTo (2 ^ 61) (slot_counts x)) stands.seen (omega arith, omega arith)
slot_low (gated.Registry s) is stands = absurd is
slot_low (gated.Pool s) is stands = absurd is

registry_low : (generation : ℕ) (o : Gated) → IsRegistry o → RegistryRepresents generation [] (registry_in o) →
    AreUpTo (2 ^ 61) (gated_counts o)
registry_low generation (gated.Registry s) is stands =
    let none = ap (λ (s : RegistryState). s.settled) stands.seen in
    (subst (λ n. n ≤ 2 ^ 61) none (omega arith), omega arith)
registry_low generation (gated.Slot s) is stands = absurd is
registry_low generation (gated.Pool s) is stands = absurd is

pool_low : (o : Gated) → IsPool o → PoolRepresents [] (pool_in o) → AreUpTo (2 ^ 61) (gated_counts o)
pool_low (gated.Pool s) is stands = subst (λ x. AreUpTo (2 ^ 61) (pool_counts x)) stands.seen (omega arith, omega arith)
pool_low (gated.Registry s) is stands = absurd is
pool_low (gated.Slot s) is stands = absurd is

slots_low : (ss : List Gated) → AreVacantSlots ss → All (λ o. AreUpTo (2 ^ 61) (gated_counts o)) ss
slots_low [] are = all_none (λ o. AreUpTo (2 ^ 61) (gated_counts o))
slots_low (s ∷ ss) are =
    all_one (λ o. AreUpTo (2 ^ 61) (gated_counts o)) s ss (slot_low s are.0.0 are.0.1) (slots_low ss are.1)

pub fresh_low : (generation blocks : ℕ) (objects : List Gated) → AreFresh generation blocks objects →
    All (λ o. AreUpTo (2 ^ 61) (gated_counts o)) objects
fresh_low generation blocks [] fresh = absurd fresh
fresh_low generation blocks (r ∷ []) fresh = absurd fresh
fresh_low generation blocks (r ∷ p ∷ ss) fresh =
    let low : Gated → Type 0 = λ o. AreUpTo (2 ^ 61) (gated_counts o) in
    all_one low r (p ∷ ss) (registry_low generation r fresh.0.0 fresh.0.1)
    (all_one low p ss (pool_low p fresh.1.0 fresh.1.1) (slots_low ss fresh.2))

pub fresh_many : (generation blocks : ℕ) (objects : List Gated) → AreFresh generation blocks objects →
    length objects ≡ SLOTS + 2
fresh_many generation blocks [] fresh = absurd fresh
fresh_many generation blocks (r ∷ []) fresh = absurd fresh
fresh_many generation blocks (r ∷ p ∷ ss) fresh = let many = fresh.3 in omega (arith, many)

-- ---- one more slot

vacant_snoc : (ss : List Gated) (s : Gated) → AreVacantSlots ss → IsSlot s → SlotRepresents [] (slot_in s) →
    AreVacantSlots (ss ++ s ∷ [])
vacant_snoc [] s are is stands = ((is, stands), tt)
vacant_snoc (x ∷ xs) s are is stands = (are.0, vacant_snoc xs s are.1 is stands)

pub fresh_snoc : (slots generation blocks : ℕ) (objects : List Gated) (s : Gated) →
    AreFreshUpTo slots generation blocks objects → IsSlot s → SlotRepresents [] (slot_in s) →
    AreFreshUpTo (slots + 1) generation blocks (objects ++ s ∷ [])
fresh_snoc slots generation blocks [] s fresh is stands = absurd fresh
fresh_snoc slots generation blocks (r ∷ []) s fresh is stands = absurd fresh
fresh_snoc slots generation blocks (r ∷ p ∷ ss) s fresh is stands =
    let many = fresh.3 in
    (fresh.0, fresh.1, vacant_snoc ss s fresh.2 is stands, length-append ss (s ∷ []) ∙ omega (arith, many))

-- ---- the bank

slots_vacant : (gs : List (Gateway Gated)) → AreVacantSlots (map (λ (g : Gateway Gated). g.opening) gs) →
    All (SlotRepresents []) (map (λ (g : Gateway Slot). g.opening) (map (gate_as as_slot) gs))
slots_vacant [] are = all_none (SlotRepresents [])
slots_vacant (g ∷ gs) are = all_one (SlotRepresents []) (slot_in g.opening)
    (map (λ (h : Gateway Slot). h.opening) (map (gate_as as_slot) gs)) are.0.1 (slots_vacant gs are.1)

slots_first : (first : ℕ) (gs : List (Gateway Gated)) → All (λ (g : Gateway Gated). g.first ≡ first) gs →
    All (λ (g : Gateway Slot). g.first ≡ first) (map (gate_as as_slot) gs)
slots_first first [] all = all_none (λ (g : Gateway Slot). g.first ≡ first)
slots_first first (g ∷ gs) all =
    all_one (λ (h : Gateway Slot). h.first ≡ first) (gate_as as_slot g) (map (gate_as as_slot) gs)
    (all_head (λ (h : Gateway Gated). h.first ≡ first) g gs all)
    (slots_first first gs (all_tail (λ (h : Gateway Gated). h.first ≡ first) g gs all))

slots_are : (gs : List (Gateway Gated)) → AreVacantSlots (map (λ (g : Gateway Gated). g.opening) gs) → AreSlots gs
slots_are [] are = tt
slots_are (g ∷ gs) are = (are.0.0, slots_are gs are.1)

opened_each : (gs : List (Gateway Gated)) →
    map (seat_as as_slot) (map opened gs) ≡ map opened (map (gate_as as_slot) gs)
opened_each [] = refl
opened_each (g ∷ gs) = ap (λ l. opened (gate_as as_slot g) ∷ l) (opened_each gs)

-- The first objects determine the kinds.
kinds_of : (generation blocks : ℕ) (gs : List (Gateway Gated)) →
    AreFresh generation blocks (map (λ (g : Gateway Gated). g.opening) gs) → AreByKind gs
kinds_of generation blocks [] fresh = absurd fresh
kinds_of generation blocks (r ∷ []) fresh = absurd fresh
kinds_of generation blocks (r ∷ p ∷ ss) fresh = (fresh.0.0, fresh.1.0, slots_are ss fresh.2)

open_with : (generation blocks first : ℕ) (gs : List (Gateway Gated)) →
    AreFresh generation blocks (map (λ (g : Gateway Gated). g.opening) gs) →
    All (λ (g : Gateway Gated). g.first ≡ first) gs → AreOpen generation blocks first (gates_seen gs)
open_with generation blocks first [] fresh all = absurd fresh
open_with generation blocks first (r ∷ []) fresh all = absurd fresh
open_with generation blocks first (r ∷ p ∷ ss) fresh all =
    let begins : Gateway Gated → Type 0 = λ g. g.first ≡ first in
    let rest = all_tail begins r (p ∷ ss) all in
    record {
      slots = (
        length-map ss (gate_as as_slot) ∙ sym (length-map ss (λ (g : Gateway Gated). g.opening)) ∙ fresh.3,
        slots_vacant ss fresh.2,
        slots_first first ss (all_tail begins p ss rest),
      );
      registry = (fresh.0.1, all_head begins r (p ∷ ss) all);
      pool = (fresh.1.1, fresh.1.2, all_head begins p ss rest);
    }

pub opened_kinds : (generation blocks first : ℕ) (objects : List Gated) (gs : List (Gateway Gated)) →
    AreFresh generation blocks objects → AreOpened objects first gs → AreByKind gs
opened_kinds generation blocks first objects gs fresh opened =
    kinds_of generation blocks gs (subst (AreFresh generation blocks) (sym opened.0) fresh)

pub opened_open : (generation blocks first : ℕ) (objects : List Gated) (gs : List (Gateway Gated)) →
    AreFresh generation blocks objects → AreOpened objects first gs → AreOpen generation blocks first (gates_seen gs)
opened_open generation blocks first objects gs fresh opened =
    open_with generation blocks first gs (subst (AreFresh generation blocks) (sym opened.0) fresh) opened.1

pub first_seats : (gs : List (Gateway Gated)) → seats_at (map opened gs) (first_with 0) ≡ all_opened (gates_seen gs)
first_seats [] = refl
first_seats (r ∷ []) = refl
first_seats (r ∷ p ∷ ss) =
    let seats : List SlotSeat → Seats = λ slots. record {
      slots = slots;
      registry = opened (gate_as as_registry r);
      pool = opened (gate_as as_pool p);
      member = first_with 0;
    } in
    ap seats (opened_each ss)
