-- What a call at a place of the bank shows of the object that was called.
use Rattle.std.proofs.Common.{◌≡◌, ◌+◌, ◌++◌, false, List, map, refl, sym, ap, subst, ◌∙◌}
use Rattle.std.proofs.lemmas.List.{map-append}
use Rattle.sysv_model.specs.Turn.{OfSlot, OfRegistry, OfPool, AtSlot, AtRegistry, AtPool}
use Rattle.sysv_model.specs.Members.{MakesTurn}
use Rattle.sysv_gate.specs.History.{Moves, after_all}
use Rattle.sysv_gate.specs.Gates.{Gateway, Answers, marked}
use Rattle.sysv_bank.specs.Banks.{gates_of, ChangesAt}
use Rattle.sysv_bank.specs.Passes.{GoesOn, AddsToOrder}
use Rattle.sysv_service.specs.declared.kinds.Gated.{Gated}
use Rattle.sysv_objects.specs.declared.object.ObjectCall.{ObjectCall}
use Rattle.sysv_objects.specs.declared.object.ObjectCall.TheVariants as asked
use Rattle.sysv_objects.specs.declared.object.ObjectReply.{ObjectReply}
use Rattle.sysv_objects.specs.declared.object.ObjectReply.TheVariants as told
use Rattle.sysv_objects.specs.declared.slot.SlotCall.{SlotCall}
use Rattle.sysv_objects.specs.declared.slot.SlotReply.{SlotReply}
use Rattle.sysv_objects.specs.declared.registry.RegistryCall.{RegistryCall}
use Rattle.sysv_objects.specs.declared.registry.RegistryReply.{RegistryReply}
use Rattle.sysv_objects.specs.declared.pool.PoolCall.{PoolCall}
use Rattle.sysv_objects.specs.declared.pool.PoolReply.{PoolReply}
use Rattle.sysv_objects.specs.SlotTurns.{slot_asked, slot_call, slot_reply, SlotMoves}
use Rattle.sysv_service.specs.Counts.{slot_counts}
use Rattle.sysv_objects.specs.RegistryTurns.{registry_call, registry_reply, RegistryMoves}
use Rattle.sysv_service.specs.Counts.{registry_counts}
use Rattle.sysv_objects.specs.PoolTurns.{pool_call, pool_reply, PoolMoves}
use Rattle.sysv_service.specs.Counts.{pool_counts}
use Rattle.sysv_service.specs.Gated.{IsSlot, IsRegistry, IsPool, slot_in, as_slot, as_registry, as_pool, GatedMoves}
use Rattle.sysv_service.specs.Gated.{gated_counts, place_of}
use Rattle.sysv_service.specs.ObjectKinds.{turn_as, seat_as}
use Rattle.sysv_service.specs.Seats.{SlotSeat, KnowWhatTheyRead, MakesTurnAt, FindsWorn}
use Rattle.sysv_service.specs.Order.{GatedPass, member_of}
use Rattle.sysv_objects.specs.Turns.{ask_of_call, Takes}
use Rattle.sysv_service.specs.Banked.{AreByKind, seats_seen}
use Rattle.sysv_service.proofs.GateOfKind.{answers_as, others_as, after_as}
use Rattle.sysv_service.proofs.KindsKept.{keeps_slot, keeps_registry, keeps_pool}
use Rattle.sysv_service.proofs.PlacesShown.{Mark, changes_slot, changes_registry, changes_pool, sees_more}
use Rattle.sysv_service.proofs.OrderedTurns.{object_was, slot_made, registry_made, pool_made}
use Rattle.sysv_service.proofs.ReplyIsTurn.{object_before, turn_meant, slot_answers, registry_answers, pool_answers}

-- What the bank promises of the call.
abbrev pub Called : ObjectCall → ObjectReply → Mark → Mark → Type 0
Called call reply b a = Answers (Moves GatedMoves gated_counts) gated_counts b call reply a × (b.worn ≡ false)

meant : (call : ObjectCall) (reply : ObjectReply) (b a : Mark) (c : Called call reply b a) →
    GatedMoves (object_before GatedMoves gated_counts b call reply a c.0) call reply c.0.object
meant call reply b a c = turn_meant GatedMoves gated_counts b call reply a c.0

-- ---- a slot

pub slot_called : (bank : List (Gateway Gated)) (before after : GatedPass) (call : SlotCall) (reply : SlotReply) →
    AreByKind (gates_of before.seats) → gates_of before.seats ≡ bank → gates_of after.seats ≡ bank →
    AddsToOrder (slot_asked call + 2) before after →
    ChangesAt (slot_asked call + 2) before.seats after.seats (Called (asked.Slot call) (told.Slot reply)) →
    KnowWhatTheyRead (seats_seen after) →
    Takes MakesTurnAt (seats_seen before) (asked.Slot call) (told.Slot reply) (seats_seen after)
slot_called bank before after call reply kinds one two adds mine reads =
    let slot = slot_asked call in
    let o : Gated = object_was (slot + 2) before (asked.Slot call) (told.Slot reply) after mine in
    let m = (seats_seen before).member in
    let m' = (seats_seen after).member in
    let called : Mark → Mark → Type 0 = (λ b a.
    (k : Called (asked.Slot call) (told.Slot reply) b a) × (after_all b.gate.opening (b.seen ++ k.0.others) ≡ o)) in
    let answered : SlotSeat → SlotSeat → Type 0 =
    (λ b a.
    (k : Answers (Moves SlotMoves slot_counts) slot_counts b call reply a × (b.worn ≡ false))
    × (object_before SlotMoves slot_counts b call reply a k.0 ≡ slot_in o)) in
    let went = changes_slot m m' slot before.seats after.seats called answered kinds
    (λ b a at kind how. (
      (
        answers_as as_slot IsSlot (Moves GatedMoves gated_counts) gated_counts (Moves SlotMoves slot_counts) slot_counts
            keeps_slot b (asked.Slot call) (told.Slot reply) a kind how.0.0,
        how.0.1,
      ),
      ap (λ os. after_all (slot_in b.gate.opening) (map (turn_as as_slot) b.seen ++ os))
          (others_as as_slot IsSlot (Moves GatedMoves gated_counts) gated_counts (Moves SlotMoves slot_counts)
          slot_counts keeps_slot b (asked.Slot call) (told.Slot reply) a kind how.0.0)
          ∙ ap (after_all (slot_in b.gate.opening)) (sym (map-append (turn_as as_slot) b.seen how.0.0.others))
          ∙ (sym (after_as as_slot b.gate.opening (b.seen ++ how.0.0.others)) ∙ ap slot_in how.1),
    ))
    (record { was = mine.was; is = mine.is; at = mine.at; others = mine.others; change = (mine.change, refl) }) in
    let made = slot_made slot before after call reply adds mine in
    slot_answers (seats_seen before) call reply (seats_seen after) (slot_in o) went.0 went.1 went.2
    (subst (λ gs.
    MakesTurn (member_of (gates_of before.seats) before) (AtSlot slot (slot_call call) (slot_reply (slot_in o) reply))
    (member_of gs after)) (one ∙ sym two) made)
    reads

pub slot_worn : (bank : List (Gateway Gated)) (before after : GatedPass) (call : SlotCall) →
    AreByKind (gates_of before.seats) → gates_of before.seats ≡ bank → gates_of after.seats ≡ bank →
    GoesOn before after →
    ChangesAt (slot_asked call + 2) before.seats after.seats (λ b a. a ≡ marked b) →
    FindsWorn (seats_seen before) (OfSlot (slot_asked call) (slot_call call)) (seats_seen after)
slot_worn bank before after call kinds one two goes c =
    let slot = slot_asked call in
    let went = changes_slot (seats_seen before).member (seats_seen after).member slot before.seats after.seats
    (λ b a. a ≡ marked b) (λ b a. a ≡ marked b) kinds (λ b a at kind how. ap (seat_as as_slot) how) c in
    (went.0, went.1, went.2, sees_more bank before after one two goes)

-- ---- the registry

pub registry_called : (bank : List (Gateway Gated)) (before after : GatedPass) (call : RegistryCall)
    (reply : RegistryReply) → AreByKind (gates_of before.seats) → gates_of before.seats ≡ bank →
    gates_of after.seats ≡ bank → AddsToOrder 0 before after →
    ChangesAt 0 before.seats after.seats (Called (asked.Registry call) (told.Registry reply)) →
    KnowWhatTheyRead (seats_seen after) →
    Takes MakesTurnAt (seats_seen before) (asked.Registry call) (told.Registry reply) (seats_seen after)
registry_called bank before after call reply kinds one two adds mine reads =
    let went = changes_registry (seats_seen before).member (seats_seen after).member before.seats after.seats
    (Called (asked.Registry call) (told.Registry reply))
    (λ b a. Answers (Moves RegistryMoves registry_counts) registry_counts b call reply a × (b.worn ≡ false)) kinds
    (λ b a at kind how. (
      answers_as as_registry IsRegistry (Moves GatedMoves gated_counts) gated_counts
          (Moves RegistryMoves registry_counts) registry_counts keeps_registry b (asked.Registry call)
          (told.Registry reply) a kind how.0,
      how.1,
    )) mine in
    registry_answers (seats_seen before) call reply (seats_seen after) went.0.0 went.0.1 went.1 went.2
    (subst (λ gs.
    MakesTurn (member_of (gates_of before.seats) before) (AtRegistry (registry_call call) (registry_reply reply))
    (member_of gs after)) (one ∙ sym two) (registry_made before after call reply adds mine))
    reads

pub registry_worn : (bank : List (Gateway Gated)) (before after : GatedPass) (call : RegistryCall) →
    AreByKind (gates_of before.seats) → gates_of before.seats ≡ bank → gates_of after.seats ≡ bank →
    GoesOn before after → ChangesAt 0 before.seats after.seats (λ b a. a ≡ marked b) →
    FindsWorn (seats_seen before) (OfRegistry (registry_call call)) (seats_seen after)
registry_worn bank before after call kinds one two goes c =
    let went = changes_registry (seats_seen before).member (seats_seen after).member before.seats after.seats
    (λ b a. a ≡ marked b) (λ b a. a ≡ marked b) kinds (λ b a at kind how. ap (seat_as as_registry) how) c in
    (went.0, went.1, went.2, sees_more bank before after one two goes)

-- ---- the pool

pub pool_called : (bank : List (Gateway Gated)) (before after : GatedPass) (call : PoolCall) (reply : PoolReply) →
    AreByKind (gates_of before.seats) → gates_of before.seats ≡ bank → gates_of after.seats ≡ bank →
    AddsToOrder 1 before after →
    ChangesAt 1 before.seats after.seats (Called (asked.Pool call) (told.Pool reply)) →
    KnowWhatTheyRead (seats_seen after) →
    Takes MakesTurnAt (seats_seen before) (asked.Pool call) (told.Pool reply) (seats_seen after)
pool_called bank before after call reply kinds one two adds mine reads =
    let went = changes_pool (seats_seen before).member (seats_seen after).member before.seats after.seats
    (Called (asked.Pool call) (told.Pool reply))
    (λ b a. Answers (Moves PoolMoves pool_counts) pool_counts b call reply a × (b.worn ≡ false)) kinds
    (λ b a at kind how. (
      answers_as as_pool IsPool (Moves GatedMoves gated_counts) gated_counts (Moves PoolMoves pool_counts) pool_counts
          keeps_pool b (asked.Pool call) (told.Pool reply) a kind how.0,
      how.1,
    )) mine in
    pool_answers (seats_seen before) call reply (seats_seen after) went.0.0 went.0.1 went.1 went.2
    (subst (λ gs.
    MakesTurn (member_of (gates_of before.seats) before) (AtPool (pool_call call) (pool_reply reply))
    (member_of gs after)) (one ∙ sym two) (pool_made before after call reply adds mine))
    reads

pub pool_worn : (bank : List (Gateway Gated)) (before after : GatedPass) (call : PoolCall) →
    AreByKind (gates_of before.seats) → gates_of before.seats ≡ bank → gates_of after.seats ≡ bank →
    GoesOn before after → ChangesAt 1 before.seats after.seats (λ b a. a ≡ marked b) →
    FindsWorn (seats_seen before) (OfPool (pool_call call)) (seats_seen after)
pool_worn bank before after call kinds one two goes c =
    let went = changes_pool (seats_seen before).member (seats_seen after).member before.seats after.seats
    (λ b a. a ≡ marked b) (λ b a. a ≡ marked b) kinds (λ b a at kind how. ap (seat_as as_pool) how) c in
    (went.0, went.1, went.2, sees_more bank before after one two goes)

-- ---- any object

-- The reply is of the kind of the call.
pub called : (bank : List (Gateway Gated)) (before after : GatedPass) (call : ObjectCall) (reply : ObjectReply) →
    AreByKind (gates_of before.seats) → gates_of before.seats ≡ bank → gates_of after.seats ≡ bank →
    AddsToOrder (place_of call) before after → ChangesAt (place_of call) before.seats after.seats (Called call reply) →
    KnowWhatTheyRead (seats_seen after) →
    Takes MakesTurnAt (seats_seen before) call reply (seats_seen after)
called bank before after (asked.Slot call) (told.Slot reply) kinds one two adds c reads =
    slot_called bank before after call reply kinds one two adds c reads
called bank before after (asked.Registry call) (told.Registry reply) kinds one two adds c reads =
    registry_called bank before after call reply kinds one two adds c reads
called bank before after (asked.Pool call) (told.Pool reply) kinds one two adds c reads =
    pool_called bank before after call reply kinds one two adds c reads
called bank before after (asked.Slot call) (told.Registry reply) kinds one two adds c reads =
    absurd (meant _ _ c.was c.is c.change)
called bank before after (asked.Slot call) (told.Pool reply) kinds one two adds c reads =
    absurd (meant _ _ c.was c.is c.change)
called bank before after (asked.Registry call) (told.Slot reply) kinds one two adds c reads =
    absurd (meant _ _ c.was c.is c.change)
called bank before after (asked.Registry call) (told.Pool reply) kinds one two adds c reads =
    absurd (meant _ _ c.was c.is c.change)
called bank before after (asked.Pool call) (told.Slot reply) kinds one two adds c reads =
    absurd (meant _ _ c.was c.is c.change)
called bank before after (asked.Pool call) (told.Registry reply) kinds one two adds c reads =
    absurd (meant _ _ c.was c.is c.change)

pub found_worn : (bank : List (Gateway Gated)) (before after : GatedPass) (call : ObjectCall) →
    AreByKind (gates_of before.seats) → gates_of before.seats ≡ bank → gates_of after.seats ≡ bank →
    GoesOn before after →
    ChangesAt (place_of call) before.seats after.seats (λ b a. a ≡ marked b) →
    FindsWorn (seats_seen before) (ask_of_call call) (seats_seen after)
found_worn bank before after (asked.Slot call) = slot_worn bank before after call
found_worn bank before after (asked.Registry call) = registry_worn bank before after call
found_worn bank before after (asked.Pool call) = pool_worn bank before after call
