-- Proves that the turn that a pass adds to the order is the one that the object at the place made.
use Rattle.std.proofs.Common.{◌≡◌, ℕ, zero, suc, ◌+◌, List, [], ◌∷◌, ◌++◌, sym, ap, subst, ◌∙◌, arith}
use Rattle.std.proofs.lemmas.List.{same_from_push}
use mathlib.Core.Option.{some, some-injective, some-ne-none}
use lib.ListN.{get_elem?}
use Rattle.sysv_lists.proofs.Places.{set_at}
use Rattle.sysv_model.specs.Turn.{AtSlot, AtRegistry, AtPool}
use Rattle.sysv_model.specs.Members.{MakesTurn}
use Rattle.sysv_gate.specs.History.{after_all}
use Rattle.sysv_gate.specs.Gates.{Holding}
use Rattle.sysv_gate.specs.Orders.{turns_at}
use Rattle.sysv_gate.proofs.OrderByPlace.{turns_append, turns_here}
use Rattle.sysv_bank.specs.Banks.{gates_of}
use Rattle.sysv_bank.specs.Passes.{AddsToOrder}
use Rattle.sysv_service.specs.declared.kinds.Gated.{Gated}
use Rattle.sysv_objects.specs.declared.object.ObjectCall.{ObjectCall}
use Rattle.sysv_objects.specs.declared.object.ObjectCall.TheVariants as asked
use Rattle.sysv_objects.specs.declared.object.ObjectReply.{ObjectReply}
use Rattle.sysv_objects.specs.declared.object.ObjectReply.TheVariants as told
use Rattle.sysv_objects.specs.declared.slot.SlotCall.{SlotCall}
use Rattle.sysv_objects.specs.declared.slot.SlotReply.{SlotReply}
use Rattle.sysv_objects.specs.declared.registry.RegistryCall.{RegistryCall}
use Rattle.sysv_objects.specs.declared.registry.RegistryReply.{RegistryReply}
use Rattle.sysv_objects.specs.declared.pool.PoolCall.{PoolCall}
use Rattle.sysv_objects.specs.declared.pool.PoolReply.{PoolReply}
use Rattle.sysv_objects.specs.SlotTurns.{slot_call, slot_reply}
use Rattle.sysv_objects.specs.RegistryTurns.{registry_call, registry_reply}
use Rattle.sysv_objects.specs.PoolTurns.{pool_call, pool_reply}
use Rattle.sysv_service.specs.Gated.{slot_in}
use Rattle.sysv_service.specs.Order.{GatedTurn, GatedPlaced, GatedPass, opening_at, op_at, member_of}
use Rattle.sysv_service.specs.Ordered.{op_added, AnswersAt, op_answered}
use Rattle.sysv_service.proofs.Ordered.{makes}

opening_of : (seats : List (Holding Gated ObjectCall ObjectReply)) (place : ℕ)
    (h : Holding Gated ObjectCall ObjectReply) → get_elem? seats place ≡ some h →
    opening_at (gates_of seats) place ≡ h.gate.opening
opening_of [] place h at = absurd (some-ne-none h (sym at))
opening_of (s ∷ ss) zero h at =
    ap (λ (x : Holding Gated ObjectCall ObjectReply). x.gate.opening) (some-injective s h at)
opening_of (s ∷ ss) (suc place) h at = opening_of ss place h at

pub answered : (place : ℕ) (before after : GatedPass) (call : ObjectCall) (reply : ObjectReply)
    (adds : AddsToOrder place before after) (c : AnswersAt place before call reply after) →
    op_added (gates_of before.seats) place before after adds ≡ op_answered place before call reply after c
answered place before after call reply adds c =
    let a = c.change.0 in
    let added : GatedPlaced = record { place = place; turn = adds.turn } in
    let turn : GatedTurn = record { by = c.was.number; call = call; reply = reply; after = a.object } in
    let is_there : get_elem? after.seats place ≡ some c.is =
    ap (λ l. get_elem? l place) c.others ∙ set_at before.seats place c.was c.is c.at in
    let in_order : turns_at place after.order ≡ turns_at place (before.order ++ adds.others) ++ adds.turn ∷ [] =
    ap (turns_at place) adds.order
    ∙ (turns_append place (before.order ++ adds.others) (added ∷ [])
    ∙ ap (λ ts. turns_at place (before.order ++ adds.others) ++ ts) (turns_here place (adds.turn ∷ []))) in
    let seen : c.is.seen ≡ (c.was.seen ++ a.others) ++ turn ∷ [] =
    ap (λ (h : Holding Gated ObjectCall ObjectReply). h.seen) a.made in
    let both = same_from_push (turns_at place (before.order ++ adds.others)) (c.was.seen ++ a.others) adds.turn turn
    (sym in_order ∙ (sym (adds.seen c.is is_there) ∙ seen)) in
    let opening = opening_of before.seats place c.was c.at in
    λ i. op_at place (after_all (opening i) (both.0 i)) (both.1 i)

two_more : (n : ℕ) → n + 2 ≡ suc (suc n)
two_more n = omega arith

-- ---- a turn at each object, as the calls state it

abbrev pub object_was : (place : ℕ) (before : GatedPass) (call : ObjectCall) (reply : ObjectReply) (after : GatedPass) →
    AnswersAt place before call reply after → Gated
object_was place before call reply after c = after_all c.was.gate.opening (c.was.seen ++ c.change.0.others)

pub slot_made : (slot : ℕ) (before after : GatedPass) (call : SlotCall) (reply : SlotReply) →
    AddsToOrder (slot + 2) before after → (c : AnswersAt (slot + 2) before (asked.Slot call) (told.Slot reply) after) →
    MakesTurn (member_of (gates_of before.seats) before)
    (AtSlot slot (slot_call call)
    (slot_reply (slot_in (object_was (slot + 2) before (asked.Slot call) (told.Slot reply) after c)) reply))
    (member_of (gates_of before.seats) after)
slot_made slot before after call reply adds c =
    let turn : GatedTurn =
    record { by = c.was.number; call = asked.Slot call; reply = told.Slot reply; after = c.change.0.object } in
    subst (λ d. MakesTurn (member_of (gates_of before.seats) before) d (member_of (gates_of before.seats) after))
    (answered (slot + 2) before after (asked.Slot call) (told.Slot reply) adds c
    ∙ ap (λ n. op_at n (object_was (slot + 2) before (asked.Slot call) (told.Slot reply) after c) turn)
    (two_more slot))
    (makes (gates_of before.seats) (slot + 2) before after adds)

pub registry_made : (before after : GatedPass) (call : RegistryCall) (reply : RegistryReply) →
    AddsToOrder 0 before after → AnswersAt 0 before (asked.Registry call) (told.Registry reply) after →
    MakesTurn (member_of (gates_of before.seats) before) (AtRegistry (registry_call call) (registry_reply reply))
    (member_of (gates_of before.seats) after)
registry_made before after call reply adds c =
    subst (λ d. MakesTurn (member_of (gates_of before.seats) before) d (member_of (gates_of before.seats) after))
    (answered 0 before after (asked.Registry call) (told.Registry reply) adds c)
    (makes (gates_of before.seats) 0 before after adds)

pub pool_made : (before after : GatedPass) (call : PoolCall) (reply : PoolReply) → AddsToOrder 1 before after →
    AnswersAt 1 before (asked.Pool call) (told.Pool reply) after →
    MakesTurn (member_of (gates_of before.seats) before) (AtPool (pool_call call) (pool_reply reply))
    (member_of (gates_of before.seats) after)
pool_made before after call reply adds c =
    subst (λ d. MakesTurn (member_of (gates_of before.seats) before) d (member_of (gates_of before.seats) after))
    (answered 1 before after (asked.Pool call) (told.Pool reply) adds c)
    (makes (gates_of before.seats) 1 before after adds)
