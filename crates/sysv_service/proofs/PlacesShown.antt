-- What the places of a bank show of the registry, of the pool and of the slots.
use Rattle.std.proofs.Common.{◌≡◌, ℕ, zero, suc, ◌+◌, List, [], ◌∷◌, map, set, refl, sym, ap, subst, ◌∙◌, arith}
use mathlib.Core.Option.{some, some-injective, some-ne-none}
use lib.ListN.{get_elem?}
use Rattle.atomic_table.specs.Seated.{TableId}
use Rattle.atomic_table.proofs.Lists.{at_map}
use Rattle.sysv_model.specs.Members.{Member, SeesMore}
use Rattle.sysv_gate.specs.History.{Moves}
use Rattle.sysv_gate.specs.Gates.{Gateway, Holding}
use Rattle.sysv_bank.specs.Banks.{gates_of, ChangesAt, AcceptsAt}
use Rattle.sysv_bank.specs.Passes.{GoesOn}
use Rattle.sysv_service.specs.declared.kinds.Gated.{Gated}
use Rattle.sysv_service.specs.declared.kinds.Gated.TheVariants as gated
use Rattle.sysv_objects.specs.declared.object.ObjectCall.{ObjectCall}
use Rattle.sysv_objects.specs.declared.object.ObjectCall.TheVariants as asked
use Rattle.sysv_objects.specs.declared.object.ObjectReply.{ObjectReply}
use Rattle.sysv_objects.specs.declared.slot.SlotCall.{SlotCall}
use Rattle.sysv_objects.specs.declared.slot.SlotReply.{SlotReply}
use Rattle.sysv_objects.specs.declared.registry.RegistryCall.{RegistryCall}
use Rattle.sysv_objects.specs.declared.registry.RegistryReply.{RegistryReply}
use Rattle.sysv_objects.specs.declared.pool.PoolCall.{PoolCall}
use Rattle.sysv_objects.specs.declared.pool.PoolReply.{PoolReply}
use Rattle.sysv_queue.specs.Slot.{Slot}
use Rattle.sysv_keys.specs.State.{Registry}
use Rattle.sysv_pool.specs.State.{State}
use Rattle.sysv_objects.specs.SlotTurns.{slot_asked, SlotMoves}
use Rattle.sysv_service.specs.Counts.{slot_counts}
use Rattle.sysv_objects.specs.RegistryTurns.{RegistryMoves}
use Rattle.sysv_service.specs.Counts.{registry_counts}
use Rattle.sysv_objects.specs.PoolTurns.{PoolMoves}
use Rattle.sysv_service.specs.Counts.{pool_counts}
use Rattle.sysv_service.specs.ObjectKinds.{gate_as, seat_as}
use Rattle.sysv_service.specs.Gated.{IsSlot, IsRegistry, IsPool, slot_in, registry_in, pool_in, as_slot, as_registry}
use Rattle.sysv_service.specs.Gated.{as_pool, Accepts, GatedMoves, gated_counts, place_of}
use Rattle.sysv_service.specs.Seats.{Gates, Seats, AreOf}
use Rattle.sysv_service.specs.Banked.{AreSlots, AreByKind, gates_seen, seats_at, seats_seen}
use Rattle.sysv_service.specs.Order.{GatedPass, member_of}
use Rattle.sysv_service.proofs.GateOfKind.{is_after}
use Rattle.sysv_service.proofs.Ordered.{sees}
use Rattle.sysv_service.proofs.KindsKept.{keeps_slot, keeps_registry, keeps_pool}

abbrev pub Mark : Type 0
Mark = Holding Gated ObjectCall ObjectReply

-- ---- what is seen determines the gates

slot_back : (a b : Gated) → IsSlot a → IsSlot b → slot_in a ≡ slot_in b → a ≡ b
slot_back (gated.Slot x) (gated.Slot y) s t e = ap (λ z. gated.Slot z) e
slot_back (gated.Slot x) (gated.Registry y) s t e = absurd t
slot_back (gated.Slot x) (gated.Pool y) s t e = absurd t
slot_back (gated.Registry x) b s t e = absurd s
slot_back (gated.Pool x) b s t e = absurd s

registry_back : (a b : Gated) → IsRegistry a → IsRegistry b → registry_in a ≡ registry_in b → a ≡ b
registry_back (gated.Registry x) (gated.Registry y) s t e = ap (λ z. gated.Registry z) e
registry_back (gated.Registry x) (gated.Slot y) s t e = absurd t
registry_back (gated.Registry x) (gated.Pool y) s t e = absurd t
registry_back (gated.Slot x) b s t e = absurd s
registry_back (gated.Pool x) b s t e = absurd s

pool_back : (a b : Gated) → IsPool a → IsPool b → pool_in a ≡ pool_in b → a ≡ b
pool_back (gated.Pool x) (gated.Pool y) s t e = ap (λ z. gated.Pool z) e
pool_back (gated.Pool x) (gated.Registry y) s t e = absurd t
pool_back (gated.Pool x) (gated.Slot y) s t e = absurd t
pool_back (gated.Registry x) b s t e = absurd s
pool_back (gated.Slot x) b s t e = absurd s

same_gate : {O : Type 0} (g h : Gateway O) → g.table ≡ h.table → g.opening ≡ h.opening → g.first ≡ h.first → g ≡ h
same_gate {O} g h t o f =
    let at : (table : TableId) (opening : O) (first : ℕ) → Gateway O = λ table opening first.
    record { table = table; opening = opening; first = first } in
    ap (λ x. at x g.opening g.first) t ∙ (ap (λ x. at h.table x g.first) o ∙ ap (λ x. at h.table h.opening x) f)

pub head_of : {A : Type 0} (x y : A) (xs ys : List A) → x ∷ xs ≡ y ∷ ys → x ≡ y
head_of x y xs ys e = cc

pub tail_of : {A : Type 0} (x y : A) (xs ys : List A) → x ∷ xs ≡ y ∷ ys → xs ≡ ys
tail_of x y xs ys e = cc

slots_back : (gs hs : List (Gateway Gated)) → AreSlots gs → AreSlots hs →
    map (gate_as as_slot) gs ≡ map (gate_as as_slot) hs → gs ≡ hs
slots_back [] [] a b e = refl
slots_back [] (h ∷ hs) a b e = cc
slots_back (g ∷ gs) [] a b e = cc
slots_back (g ∷ gs) (h ∷ hs) a b e =
    let here = head_of (gate_as as_slot g) (gate_as as_slot h) _ _ e in
    let one = same_gate g h (ap (λ (x : Gateway Slot). x.table) here)
    (slot_back g.opening h.opening a.0 b.0 (ap (λ (x : Gateway Slot). x.opening) here))
    (ap (λ (x : Gateway Slot). x.first) here) in
    let more = slots_back gs hs a.1 b.1 (tail_of (gate_as as_slot g) (gate_as as_slot h) _ _ e) in
    ap (λ x. x ∷ gs) one ∙ ap (λ xs. h ∷ xs) more

gates_back : (gs hs : List (Gateway Gated)) → AreByKind gs → AreByKind hs → gates_seen gs ≡ gates_seen hs → gs ≡ hs
gates_back [] hs a b e = absurd a
gates_back (g ∷ []) hs a b e = absurd a
gates_back (g ∷ q ∷ gs) [] a b e = absurd b
gates_back (g ∷ q ∷ gs) (h ∷ []) a b e = absurd b
gates_back (g ∷ q ∷ gs) (h ∷ p ∷ hs) a b e =
    let registry = ap (λ (s : Gates). s.registry) e in
    let pool = ap (λ (s : Gates). s.pool) e in
    let one = same_gate g h (ap (λ (x : Gateway Registry). x.table) registry)
    (registry_back g.opening h.opening a.0 b.0 (ap (λ (x : Gateway Registry). x.opening) registry))
    (ap (λ (x : Gateway Registry). x.first) registry) in
    let two = same_gate q p (ap (λ (x : Gateway State). x.table) pool)
    (pool_back q.opening p.opening a.1 b.1 (ap (λ (x : Gateway State). x.opening) pool))
    (ap (λ (x : Gateway State). x.first) pool) in
    let more = slots_back gs hs a.2 b.2 (ap (λ (s : Gates). s.slots) e) in
    ap (λ x. x ∷ q ∷ gs) one ∙ (ap (λ x. h ∷ x ∷ gs) two ∙ ap (λ xs. h ∷ p ∷ xs) more)

gates_map : (ss : List Mark) → gates_of (map (seat_as as_slot) ss) ≡ map (gate_as as_slot) (gates_of ss)
gates_map [] = refl
gates_map (s ∷ ss) = ap (λ gs. gate_as as_slot s.gate ∷ gs) (gates_map ss)

of_its_own : (seats : List Mark) (m : Member) → AreOf (gates_seen (gates_of seats)) (seats_at seats m)
of_its_own [] m = record { slots = refl; registry = refl; pool = refl }
of_its_own (r ∷ []) m = record { slots = refl; registry = refl; pool = refl }
of_its_own (r ∷ p ∷ ss) m = record { slots = gates_map ss; registry = refl; pool = refl }

same_gates : (a b : Gates) → a.slots ≡ b.slots → a.registry ≡ b.registry → a.pool ≡ b.pool → a ≡ b
same_gates a b s r p =
    let at : (slots : List (Gateway Slot)) (registry : Gateway Registry) (pool : Gateway State) → Gates =
    λ slots registry pool. record { slots = slots; registry = registry; pool = pool } in
    ap (λ x. at x a.registry a.pool) s ∙ (ap (λ x. at b.slots x a.pool) r ∙ ap (λ x. at b.slots b.registry x) p)

-- Seats that are seen as belonging to the gates belong to the bank, and the other way round.
pub are_of : (bank : List (Gateway Gated)) (pass : GatedPass) (gates : Gates) (seen : Seats) → gates_seen bank ≡ gates →
    seats_seen pass ≡ seen → gates_of pass.seats ≡ bank → AreOf gates seen
are_of bank pass gates seen viewed shown fit =
    subst (λ g. AreOf g seen) viewed
    (subst (λ s. AreOf (gates_seen bank) s) shown
    (subst (λ b. AreOf (gates_seen b) (seats_seen pass)) fit
    (of_its_own pass.seats (member_of (gates_of pass.seats) pass))))

-- The gates of the seats, as they are seen.
pub gates_known : (pass : GatedPass) (gates : Gates) → AreOf gates (seats_seen pass) →
    gates_seen (gates_of pass.seats) ≡ gates
gates_known pass gates fit =
    let mine = of_its_own pass.seats (member_of (gates_of pass.seats) pass) in
    same_gates (gates_seen (gates_of pass.seats)) gates (sym mine.slots ∙ fit.slots) (sym mine.registry ∙ fit.registry)
    (sym mine.pool ∙ fit.pool)

pub of_bank : (bank : List (Gateway Gated)) (pass : GatedPass) (gates : Gates) (seen : Seats) → AreByKind bank →
    AreByKind (gates_of pass.seats) → gates_seen bank ≡ gates → seats_seen pass ≡ seen → AreOf gates seen →
    gates_of pass.seats ≡ bank
of_bank bank pass gates seen kinds own viewed shown fit =
    let theirs : AreOf (gates_seen bank) (seats_seen pass) =
    subst (λ g. AreOf g (seats_seen pass)) (sym viewed) (subst (λ s. AreOf gates s) (sym shown) fit) in
    gates_back (gates_of pass.seats) bank own kinds (gates_known pass (gates_seen bank) theirs)

-- The order that was seen has grown.
pub sees_more : (bank : List (Gateway Gated)) (before after : GatedPass) → gates_of before.seats ≡ bank →
    gates_of after.seats ≡ bank → GoesOn before after → SeesMore (seats_seen before).member (seats_seen after).member
sees_more bank before after one two goes =
    subst (λ gs. SeesMore (member_of (gates_of before.seats) before) (member_of gs after)) (one ∙ sym two)
    (sees (gates_of before.seats) before after goes)

-- ---- what is at a place

two_more : (n : ℕ) → n + 2 ≡ suc (suc n)
two_more n = omega arith

pub slots_at : (gs : List (Gateway Gated)) (slot : ℕ) (g : Gateway Gated) → AreSlots gs → get_elem? gs slot ≡ some g →
    IsSlot g.opening
slots_at [] slot g are at = absurd (some-ne-none g (sym at))
slots_at (h ∷ gs) zero g are at = subst (λ (x : Gateway Gated). IsSlot x.opening) (some-injective h g at) are.0
slots_at (h ∷ gs) (suc slot) g are at = slots_at gs slot g are.1 at

slot_there : (gs : List (Gateway Gated)) (slot : ℕ) (g : Gateway Gated) → AreByKind gs →
    get_elem? gs (slot + 2) ≡ some g → IsSlot g.opening
slot_there [] slot g kinds at = absurd kinds
slot_there (r ∷ []) slot g kinds at = absurd kinds
slot_there (r ∷ p ∷ ss) slot g kinds at =
    slots_at ss slot g kinds.2 (ap (get_elem? (r ∷ p ∷ ss)) (sym (two_more slot)) ∙ at)

registry_there : (gs : List (Gateway Gated)) (g : Gateway Gated) → AreByKind gs → get_elem? gs 0 ≡ some g →
    IsRegistry g.opening
registry_there [] g kinds at = absurd kinds
registry_there (r ∷ []) g kinds at = absurd kinds
registry_there (r ∷ p ∷ ss) g kinds at =
    subst (λ (x : Gateway Gated). IsRegistry x.opening) (some-injective r g at) kinds.0

pool_there : (gs : List (Gateway Gated)) (g : Gateway Gated) → AreByKind gs → get_elem? gs 1 ≡ some g → IsPool g.opening
pool_there [] g kinds at = absurd kinds
pool_there (r ∷ []) g kinds at = absurd kinds
pool_there (r ∷ p ∷ ss) g kinds at = subst (λ (x : Gateway Gated). IsPool x.opening) (some-injective p g at) kinds.1

accepts_slot : (gs : List (Gateway Gated)) (slot : ℕ) (call : SlotCall) → AreByKind gs →
    AcceptsAt (Moves GatedMoves gated_counts) Accepts (slot + 2) gs (asked.Slot call)
accepts_slot gs slot call kinds gate at log legal = is_after as_slot IsSlot (Moves GatedMoves gated_counts) gated_counts
    (Moves SlotMoves slot_counts) slot_counts keeps_slot gate.opening log (slot_there gs slot gate kinds at) legal

accepts_registry : (gs : List (Gateway Gated)) (call : RegistryCall) → AreByKind gs →
    AcceptsAt (Moves GatedMoves gated_counts) Accepts 0 gs (asked.Registry call)
accepts_registry gs call kinds gate at log legal =
    is_after as_registry IsRegistry (Moves GatedMoves gated_counts) gated_counts (Moves RegistryMoves registry_counts)
    registry_counts keeps_registry gate.opening log (registry_there gs gate kinds at) legal

accepts_pool : (gs : List (Gateway Gated)) (call : PoolCall) → AreByKind gs →
    AcceptsAt (Moves GatedMoves gated_counts) Accepts 1 gs (asked.Pool call)
accepts_pool gs call kinds gate at log legal = is_after as_pool IsPool (Moves GatedMoves gated_counts) gated_counts
    (Moves PoolMoves pool_counts) pool_counts keeps_pool gate.opening log (pool_there gs gate kinds at) legal

-- Each object accepts the calls of its kind.
pub accepts_call : (gs : List (Gateway Gated)) (call : ObjectCall) → AreByKind gs →
    AcceptsAt (Moves GatedMoves gated_counts) Accepts (place_of call) gs call
accepts_call gs (asked.Slot call) = accepts_slot gs (slot_asked call) call
accepts_call gs (asked.Registry call) = accepts_registry gs call
accepts_call gs (asked.Pool call) = accepts_pool gs call

-- ---- what changes at a place

map_set : {A B : Type 0} (f : A → B) (xs : List A) (i : ℕ) (x : A) → map f (set xs i x) ≡ set (map f xs) i (f x)
map_set f [] i x = refl
map_set f (y ∷ ys) zero x = refl
map_set f (y ∷ ys) (suc i) x = ap (λ l. f y ∷ l) (map_set f ys i x)

pub changes_slot : (m m' : Member) (slot : ℕ) (before after : List Mark) (how : Mark → Mark → Type 0)
    (how' : Holding Slot SlotCall SlotReply → Holding Slot SlotCall SlotReply → Type 0) → AreByKind (gates_of before)
    → ((b a : Mark) → get_elem? before (slot + 2) ≡ some b → IsSlot b.gate.opening → how b a
    → how' (seat_as as_slot b) (seat_as as_slot a)) → ChangesAt (slot + 2) before after how
    → ChangesAt slot (seats_at before m).slots (seats_at after m').slots how'
    × ((seats_at after m').registry ≡ (seats_at before m).registry)
    × ((seats_at after m').pool ≡ (seats_at before m).pool)
changes_slot m m' slot [] after how how' kinds goes c = absurd kinds
changes_slot m m' slot (r ∷ []) after how how' kinds goes c = absurd kinds
changes_slot m m' slot (r ∷ p ∷ ss) after how how' kinds goes c =
    let now : after ≡ r ∷ p ∷ set ss slot c.is = c.others ∙ ap (λ n. set (r ∷ p ∷ ss) n c.is) (two_more slot) in
    let at : get_elem? ss slot ≡ some c.was = ap (get_elem? (r ∷ p ∷ ss)) (sym (two_more slot)) ∙ c.at in
    let is = slot_there (gates_of (r ∷ p ∷ ss)) slot c.was.gate kinds
    (at_map (λ (h : Mark). h.gate) (r ∷ p ∷ ss) (slot + 2) c.was c.at) in (
      record {
        was = seat_as as_slot c.was;
        is = seat_as as_slot c.is;
        at = at_map (seat_as as_slot) ss slot c.was at;
        others = ap (λ l. (seats_at l m').slots) now ∙ map_set (seat_as as_slot) ss slot c.is;
        change = goes c.was c.is c.at is c.change;
      },
      ap (λ l. (seats_at l m').registry) now,
      ap (λ l. (seats_at l m').pool) now,
    )

pub changes_registry : (m m' : Member) (before after : List Mark) (how : Mark → Mark → Type 0)
    (how' : Holding Registry RegistryCall RegistryReply → Holding Registry RegistryCall RegistryReply → Type 0)
    → AreByKind (gates_of before)
    → ((b a : Mark) → get_elem? before 0 ≡ some b → IsRegistry b.gate.opening → how b a
    → how' (seat_as as_registry b) (seat_as as_registry a)) → ChangesAt 0 before after how
    → how' (seats_at before m).registry (seats_at after m').registry
    × ((seats_at after m').slots ≡ (seats_at before m).slots) × ((seats_at after m').pool ≡ (seats_at before m).pool)
changes_registry m m' [] after how how' kinds goes c = absurd kinds
changes_registry m m' (r ∷ []) after how how' kinds goes c = absurd kinds
changes_registry m m' (r ∷ p ∷ ss) after how how' kinds goes c =
    let now : after ≡ c.is ∷ p ∷ ss = c.others in
    let was : c.was ≡ r = sym (some-injective r c.was c.at) in
    let change = goes r c.is refl kinds.0 (subst (λ (h : Mark). how h c.is) was c.change) in (
      subst (λ l. how' (seat_as as_registry r) (seats_at l m').registry) (sym now) change,
      ap (λ l. (seats_at l m').slots) now,
      ap (λ l. (seats_at l m').pool) now,
    )

pub changes_pool : (m m' : Member) (before after : List Mark) (how : Mark → Mark → Type 0)
    (how' : Holding State PoolCall PoolReply → Holding State PoolCall PoolReply → Type 0) → AreByKind (gates_of before)
    → ((b a : Mark) → get_elem? before 1 ≡ some b → IsPool b.gate.opening → how b a
    → how' (seat_as as_pool b) (seat_as as_pool a)) → ChangesAt 1 before after how
    → how' (seats_at before m).pool (seats_at after m').pool × ((seats_at after m').slots ≡ (seats_at before m).slots)
    × ((seats_at after m').registry ≡ (seats_at before m).registry)
changes_pool m m' [] after how how' kinds goes c = absurd kinds
changes_pool m m' (r ∷ []) after how how' kinds goes c = absurd kinds
changes_pool m m' (r ∷ p ∷ ss) after how how' kinds goes c =
    let now : after ≡ r ∷ c.is ∷ ss = c.others in
    let was : c.was ≡ p = sym (some-injective p c.was c.at) in
    let change = goes p c.is refl kinds.1 (subst (λ (h : Mark). how h c.is) was c.change) in (
      subst (λ l. how' (seat_as as_pool p) (seats_at l m').pool) (sym now) change,
      ap (λ l. (seats_at l m').slots) now,
      ap (λ l. (seats_at l m').registry) now,
    )
