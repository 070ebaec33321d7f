-- What splits, joins and the end of a bank show of the registry, of the pool and of the slots.
use Rattle.std.proofs.Common.{◌≡◌, suc, List, [], ◌∷◌, ◌++◌, map, length, IfSome, refl, sym, ap, subst, ◌∙◌, arith}
use Rattle.std.specs.List.{AllByRecursion}
use Rattle.std.specs.Prelude.{option_map}
use Rattle.std.proofs.lemmas.List.{length-append}
use Rattle.atomic_table.proofs.Lists.{at_map}
use Rattle.sysv_model.specs.Turns.{Numbered}
use Rattle.sysv_model.specs.Members.{Member, AreWhole, Splits, Joins as MembersJoin, Closes as MemberCloses}
use Rattle.sysv_queue.specs.Slot.{Slot}
use Rattle.sysv_gate.specs.declared.gate.closing.Closing.{Closing}
use Rattle.sysv_gate.specs.History.{Moves}
use Rattle.sysv_gate.specs.Gates.{Gateway, parted, IsSplit, Joins, KnowsItsOwn}
use Rattle.sysv_gate.specs.Closings.{IsBack, Closes}
use Rattle.sysv_bank.specs.Banks.{gates_of, Each2, Each3, EachKnowsItsOwn}
use Rattle.sysv_bank.specs.Passes.{SplitsOff, JoinsOrders}
use Rattle.sysv_service.specs.declared.kinds.Gated.{Gated}
use Rattle.sysv_service.specs.declared.opening.GatesClosed.{GatesClosed}
use Rattle.sysv_objects.specs.SlotTurns.{SlotMoves}
use Rattle.sysv_service.specs.Counts.{slot_counts}
use Rattle.sysv_objects.specs.RegistryTurns.{RegistryMoves}
use Rattle.sysv_service.specs.Counts.{registry_counts}
use Rattle.sysv_objects.specs.PoolTurns.{PoolMoves}
use Rattle.sysv_service.specs.Counts.{pool_counts}
use Rattle.sysv_service.specs.Gated.{IsSlot, IsRegistry, IsPool, as_slot, as_registry, as_pool, GatedMoves}
use Rattle.sysv_service.specs.Gated.{gated_counts}
use Rattle.sysv_service.specs.ObjectKinds.{Kind, seat_as, IsClosingAs}
use Rattle.sysv_service.specs.Seats.{SlotSeat}
use Rattle.sysv_service.specs.SeenHistories.{EachKnowsItsOwn as EachSeatKnows}
use Rattle.sysv_service.specs.Sharing.{AreSplit, AreJoined, LegalIfOpen, ClosesAfterEach, AllClose}
use Rattle.sysv_service.specs.Order.{GatedPass, member_of}
use Rattle.sysv_service.specs.Banked.{AreSlots, AreByKind, seats_at, seats_seen}
use Rattle.sysv_service.proofs.GateOfKind.{back_as, split_as, joins_as, closes_as, knows_as, object_kept}
use Rattle.sysv_service.proofs.KindsKept.{keeps_slot, keeps_registry, keeps_pool}
use Rattle.sysv_service.proofs.PlacesShown.{Mark, slots_at}
use Rattle.sysv_service.proofs.Ordered.{splits as splits_as, joins as joins_of}

-- ---- what each seat knows

pub seats_know : (seats : List Mark) (m : Member) → AreByKind (gates_of seats) →
    EachKnowsItsOwn (Moves GatedMoves gated_counts) seats → EachSeatKnows (seats_at seats m)
seats_know [] m kinds known = absurd kinds
seats_know (r ∷ []) m kinds known = absurd kinds
seats_know (r ∷ p ∷ ss) m kinds known = record {
  slots = λ slot seat at.
      let h = back_as (seat_as as_slot) ss slot seat at in
      let is = slots_at (gates_of ss) slot h.0.gate kinds.2 (at_map (λ (m : Mark). m.gate) ss slot h.0 h.1) in
      let knows = knows_as as_slot IsSlot (Moves GatedMoves gated_counts) gated_counts (Moves SlotMoves slot_counts)
      slot_counts keeps_slot h.0 is (known (suc (suc slot)) h.0 h.1) in
      subst (λ (m : SlotSeat). KnowsItsOwn (Moves SlotMoves slot_counts) m) (sym h.2) knows;
  registry = knows_as as_registry IsRegistry (Moves GatedMoves gated_counts) gated_counts
      (Moves RegistryMoves registry_counts) registry_counts keeps_registry r kinds.0 (known 0 r refl);
  pool = knows_as as_pool IsPool (Moves GatedMoves gated_counts) gated_counts (Moves PoolMoves pool_counts) pool_counts
      keeps_pool p kinds.1 (known 1 p refl);
}

-- ---- a split

parted_each : (ss : List Mark) → map (seat_as as_slot) (map parted ss) ≡ map parted (map (seat_as as_slot) ss)
parted_each [] = refl
parted_each (s ∷ ss) = ap (λ l. parted (seat_as as_slot s) ∷ l) (parted_each ss)

split_each : (ss os : List Mark) → Each2 IsSplit ss os →
    Each2 IsSplit (map (seat_as as_slot) ss) (map (seat_as as_slot) os)
split_each [] [] e = tt
split_each [] (o ∷ os) e = absurd e
split_each (s ∷ ss) [] e = absurd e
split_each (s ∷ ss) (o ∷ os) e = (split_as as_slot s o e.0, split_each ss os e.1)

are_split_off : (before other : List Mark) (m kept new : Member) → Splits m kept new → AreByKind (gates_of before) →
    Each2 IsSplit before other → AreSplit (seats_at before m) (seats_at (map parted before) kept) (seats_at other new)
are_split_off [] other m kept new splits kinds e = absurd kinds
are_split_off (r ∷ []) other m kept new splits kinds e = absurd kinds
are_split_off (r ∷ p ∷ ss) [] m kept new splits kinds e = absurd e
are_split_off (r ∷ p ∷ ss) (r' ∷ []) m kept new splits kinds e = absurd e.1
are_split_off (r ∷ p ∷ ss) (r' ∷ p' ∷ ss') m kept new splits kinds e = record {
  slots = (parted_each ss, split_each ss ss' e.1.1);
  registry = (refl, split_as as_registry r r' e.0);
  pool = (refl, split_as as_pool p p' e.1.0);
  member = splits;
}

pub are_split : (bank : List (Gateway Gated)) (before after other : GatedPass) → AreByKind (gates_of before.seats) →
    gates_of before.seats ≡ bank → gates_of after.seats ≡ bank → gates_of other.seats ≡ bank →
    after.seats ≡ map parted before.seats →
    Each2 IsSplit before.seats other.seats → SplitsOff before after other →
    AreSplit (seats_seen before) (seats_seen after) (seats_seen other)
are_split bank before after other kinds one two three is e how =
    let gs = gates_of before.seats in
    let splits : Splits (seats_seen before).member (seats_seen after).member (seats_seen other).member =
    subst (λ hs. Splits (member_of gs before) (member_of hs after) (member_of (gates_of other.seats) other))
    (one ∙ sym two)
    (subst (λ hs. Splits (member_of gs before) (member_of gs after) (member_of hs other)) (one ∙ sym three)
    (splits_as gs before after other how)) in
    subst (λ (l : List Mark). AreSplit (seats_seen before) (seats_at l (seats_seen after).member) (seats_seen other))
    (sym is)
    (are_split_off before.seats other.seats (seats_seen before).member (seats_seen after).member
    (seats_seen other).member splits kinds e)

-- ---- a join

joins_each : (ss os as' : List Mark) → AreSlots (gates_of ss) →
    Each3 (Joins (Moves GatedMoves gated_counts)) ss os as' →
    Each3 (Joins (Moves SlotMoves slot_counts)) (map (seat_as as_slot) ss) (map (seat_as as_slot) os)
    (map (seat_as as_slot) as')
joins_each [] [] [] are e = tt
joins_each [] [] (a ∷ as') are e = absurd e
joins_each [] (o ∷ os) as' are e = absurd e
joins_each (s ∷ ss) [] as' are e = absurd e
joins_each (s ∷ ss) (o ∷ os) [] are e = absurd e
joins_each (s ∷ ss) (o ∷ os) (a ∷ as') are e = (
  joins_as as_slot IsSlot (Moves GatedMoves gated_counts) gated_counts (Moves SlotMoves slot_counts) slot_counts
      keeps_slot s o a are.0 e.0,
  joins_each ss os as' are.1 e.1,
)

all_joined : (one other after : List Mark) (m o a : Member) → MembersJoin m o a → AreByKind (gates_of one) →
    Each3 (Joins (Moves GatedMoves gated_counts)) one other after →
    AreJoined (seats_at one m) (seats_at other o) (seats_at after a)
all_joined [] other after m o a' joins kinds e = absurd kinds
all_joined (r ∷ []) other after m o a' joins kinds e = absurd kinds
all_joined (r ∷ p ∷ ss) [] after m o a' joins kinds e = absurd e
all_joined (r ∷ p ∷ ss) (r' ∷ os) [] m o a' joins kinds e = absurd e
all_joined (r ∷ p ∷ ss) (r' ∷ []) (a ∷ as') m o a' joins kinds e = absurd e.1
all_joined (r ∷ p ∷ ss) (r' ∷ p' ∷ os) (a ∷ []) m o a' joins kinds e = absurd e.1
all_joined (r ∷ p ∷ ss) (r' ∷ p' ∷ os) (a ∷ b ∷ as') m o a' joins kinds e = record {
  slots = joins_each ss os as' kinds.2 e.1.1;
  registry = joins_as as_registry IsRegistry (Moves GatedMoves gated_counts) gated_counts
      (Moves RegistryMoves registry_counts) registry_counts keeps_registry r r' a kinds.0 e.0;
  pool = joins_as as_pool IsPool (Moves GatedMoves gated_counts) gated_counts (Moves PoolMoves pool_counts) pool_counts
      keeps_pool p p' b kinds.1 e.1.0;
  member = joins;
}

pub are_joined : (bank : List (Gateway Gated)) (one other after : GatedPass) → AreByKind (gates_of one.seats) →
    gates_of one.seats ≡ bank → gates_of other.seats ≡ bank → gates_of after.seats ≡ bank →
    Each3 (Joins (Moves GatedMoves gated_counts)) one.seats other.seats after.seats → JoinsOrders one other after →
    AreJoined (seats_seen one) (seats_seen other) (seats_seen after)
are_joined bank one other after kinds first second third e how =
    let gs = gates_of one.seats in
    let joins : MembersJoin (seats_seen one).member (seats_seen other).member (seats_seen after).member =
    subst (λ hs. MembersJoin (member_of gs one) (member_of hs other) (member_of (gates_of after.seats) after))
    (first ∙ sym second)
    (subst (λ hs. MembersJoin (member_of gs one) (member_of gs other) (member_of hs after)) (first ∙ sym third)
    (joins_of gs one other after how)) in
    all_joined one.seats other.seats after.seats (seats_seen one).member (seats_seen other).member
    (seats_seen after).member joins kinds e

-- ---- the end

-- What is returned of a slot, if it is one.
abbrev pub GivenBack : Closing Gated → Closing Slot → Type 0
GivenBack c c' = IfSome c.object IsSlot → IsClosingAs as_slot c c'

closes_each : (ss : List Mark) (cs : List (Closing Gated)) (ds : List (Closing Slot)) → AreSlots (gates_of ss) →
    Each2 (Closes (Moves GatedMoves gated_counts)) ss cs → Each2 GivenBack cs ds →
    Each2 (Closes (Moves SlotMoves slot_counts)) (map (seat_as as_slot) ss) ds
closes_each [] [] [] are e back = tt
closes_each [] [] (d ∷ ds) are e back = absurd back
closes_each [] (c ∷ cs) ds are e back = absurd e
closes_each (s ∷ ss) [] ds are e back = absurd e
closes_each (s ∷ ss) (c ∷ cs) [] are e back = absurd back
closes_each (s ∷ ss) (c ∷ cs) (d ∷ ds) are e back =
    let is = back.0 (object_kept as_slot IsSlot (Moves GatedMoves gated_counts) gated_counts
    (Moves SlotMoves slot_counts) slot_counts keeps_slot s c are.0 e.0) in (
      closes_as as_slot IsSlot (Moves GatedMoves gated_counts) gated_counts (Moves SlotMoves slot_counts) slot_counts
          keeps_slot s c d are.0 is e.0,
      closes_each ss cs ds are.1 e.1 back.1,
    )

-- What a gate returned is also back as an object of the kind.
back_as_kind : {O C R O' C' R' : Type 0} (kind : Kind O C R O' C' R') (c : Closing O) (c' : Closing O') →
    IsClosingAs kind c c' → IsBack c → IsBack c'
back_as_kind kind c c' same back = (kind.object back.0, same.object ∙ ap (option_map kind.object) back.1)

back_each : (ss : List Mark) (cs : List (Closing Gated)) (ds : List (Closing Slot)) → AreSlots (gates_of ss) →
    Each2 (Closes (Moves GatedMoves gated_counts)) ss cs → Each2 GivenBack cs ds → AllByRecursion IsBack cs →
    AllByRecursion IsBack ds
back_each [] [] [] are e given back = tt
back_each [] [] (d ∷ ds) are e given back = absurd given
back_each [] (c ∷ cs) ds are e given back = absurd e
back_each (s ∷ ss) [] ds are e given back = absurd e
back_each (s ∷ ss) (c ∷ cs) [] are e given back = absurd given
back_each (s ∷ ss) (c ∷ cs) (d ∷ ds) are e given back =
    let is = given.0 (object_kept as_slot IsSlot (Moves GatedMoves gated_counts) gated_counts
    (Moves SlotMoves slot_counts) slot_counts keeps_slot s c are.0 e.0) in
    (back_as_kind as_slot c d is back.0, back_each ss cs ds are.1 e.1 given.1 back.1)

pub all_close : (seats : List Mark) (m : Member) (order : List Numbered) → MemberCloses m order
    → LegalIfOpen (seats_at seats m) order → (closed : GatesClosed) → ClosesAfterEach (seats_at seats m) closed order
    → (cs done : List (Closing Gated)) (r p : Closing Gated) → AreByKind (gates_of seats)
    → Each2 (Closes (Moves GatedMoves gated_counts)) seats cs → cs ≡ r ∷ p ∷ done
    → Each2 GivenBack done closed.slots.items
    → (IfSome r.object IsRegistry → IsClosingAs as_registry r closed.registry)
    → (IfSome p.object IsPool → IsClosingAs as_pool p closed.pool) → (AreWhole m.shares → AllByRecursion IsBack cs)
    → AllClose (seats_at seats m) closed
all_close [] m order ended lawful closed parts cs done r p kinds e is slots registry pool home = absurd kinds
all_close (x ∷ []) m order ended lawful closed parts cs done r p kinds e is slots registry pool home = absurd kinds
all_close (x ∷ y ∷ ss) m order ended lawful closed parts cs done r p kinds e is slots registry pool home =
    let each =
    subst (λ (l : List (Closing Gated)). Each2 (Closes (Moves GatedMoves gated_counts)) (x ∷ y ∷ ss) l) is e in
    let same_registry = registry (object_kept as_registry IsRegistry (Moves GatedMoves gated_counts) gated_counts
    (Moves RegistryMoves registry_counts) registry_counts keeps_registry x r kinds.0 each.0) in
    let same_pool = pool (object_kept as_pool IsPool (Moves GatedMoves gated_counts) gated_counts
    (Moves PoolMoves pool_counts) pool_counts keeps_pool y p kinds.1 each.1.0) in
    record {
      slots = closes_each ss done closed.slots.items kinds.2 each.1.1 slots;
      registry =
          closes_as as_registry IsRegistry (Moves GatedMoves gated_counts) gated_counts
          (Moves RegistryMoves registry_counts) registry_counts keeps_registry x r closed.registry kinds.0
          same_registry each.0;
      pool =
          closes_as as_pool IsPool (Moves GatedMoves gated_counts) gated_counts (Moves PoolMoves pool_counts)
          pool_counts keeps_pool y p closed.pool kinds.1
          same_pool each.1.0;
      order = order;
      member = ended;
      legal = lawful;
      parts = parts;
      home = λ whole.
          let back = subst (AllByRecursion IsBack) is (home whole) in (
            back_each ss done closed.slots.items kinds.2 each.1.1 slots back.1.1,
            back_as_kind as_registry r closed.registry same_registry back.0,
            back_as_kind as_pool p closed.pool same_pool back.1.0,
          );
    }

-- Two elements are left at the end.
pub two_left : {A : Type 0} (cs l m e done : List A) (r p : A) → cs ≡ l ++ done → l ≡ m ++ p ∷ [] → m ≡ e ++ r ∷ [] →
    length l ≡ 2 → cs ≡ r ∷ p ∷ done
two_left cs l m [] done r p is last first two = is ∙ ap (λ xs. xs ++ done) (last ∙ ap (λ xs. xs ++ p ∷ []) first)
two_left cs l m (x ∷ xs) done r p is last first two =
    let one = ap length first ∙ length-append (x ∷ xs) (r ∷ []) in
    let both = ap length last ∙ length-append m (p ∷ []) in
    absurd (omega (arith, one, both, two))
