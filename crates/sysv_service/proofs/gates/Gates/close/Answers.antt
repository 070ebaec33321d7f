use Rattle.std.proofs.Common.{◌≡◌, ◌+◌, [], ◌∷◌, ◌++◌, length, reverse, sym, ap, subst, ◌∙◌, arith}
use Rattle.std.proofs.lemmas.List.{append-nil, append_assoc, length-append, length-map, reverse-append}
use Rattle.sysv_keys.specs.declared.identifier.TheConstants.{SLOTS}
use Rattle.sysv_bank.specs.Banks.{Each2}
use Rattle.sysv_service.specs.Sharing.{AllClose}
use Rattle.sysv_service.proofs.ClosedPlaces.{as_long}
use Rattle.sysv_bank.specs.Banks.{gates_of}
use Rattle.sysv_service.specs.Order.{ops_of}
use Rattle.sysv_service.specs.Banked.{seats_seen}
use Rattle.sysv_service.proofs.Ordered.{whole, closes}
use Rattle.sysv_service.proofs.OrderedHistories.{order_legal}
use Rattle.sysv_service.proofs.PlacesShown.{of_bank}
use Rattle.sysv_service.proofs.ClosedParts.{all_parts}
use Rattle.sysv_service.proofs.SplitJoinEnd.{GivenBack, all_close, two_left}
use Rattle.sysv_service.proofs.gates.Gates.close.Goals as goal

pub close-closings-requires : goal.close-closings-requires
close-closings-requires c = of_bank c.self.inside.bank c.seats.inside.seat _ _ c.self.invariant.0 c.seats.invariant
    c.self.view_is c.seats.view_is c.requires

pub loop-init : goal.loop-init
loop-init c =
    let seats = c.seats.inside.seat.seats in
    let cs = c.close-closings.result.items in
    let fit = of_bank c.self.inside.bank c.seats.inside.seat _ _ c.self.invariant.0 c.seats.invariant c.self.view_is
    c.seats.view_is c.requires in
    let many : length cs ≡ SLOTS + 2 = sym (as_long _ _ _ c.close-closings.ensures.closed)
    ∙ sym (length-map seats (λ h. h.gate)) ∙ ap length fit ∙ c.self.invariant.1 in
    record {
      back = ([], sym (append-nil cs), subst (λ xs. Each2 GivenBack [] (reverse xs)) (sym c.self.invariant.2) tt);
      left = omega (arith, many);
      many = ap length c.self.invariant.2;
      room = c.self.invariant.3;
    }

pub loop-preserved : goal.loop-preserved
loop-preserved c =
    let back = c.loop.invariant.back in
    let x = c.in-Some.closing in
    let gone = c.in-Some.ensures.items in
    let shorter : length c.loop.closings.items ≡ length c.pop.new.self.items + 1 =
    ap length gone ∙ length-append c.pop.new.self.items (x ∷ []) in
    let longer : length c.push_reserved.new.self.items ≡ length c.loop.slots.items + 1 =
    ap length c.push_reserved.ensures.items ∙ length-append c.loop.slots.items (c.closing_of.result ∷ []) in
    let left = c.loop.invariant.left in
    let many = c.loop.invariant.many in
    let turned =
    ap reverse c.push_reserved.ensures.items ∙ reverse-append c.loop.slots.items (c.closing_of.result ∷ []) in
    record {
      back = (
        x ∷ back.0,
        back.1 ∙ ap (λ xs. xs ++ back.0) gone ∙ append_assoc c.pop.new.self.items (x ∷ []) back.0,
        subst (λ ys. Each2 GivenBack (x ∷ back.0) ys) (sym turned) (c.closing_of.ensures, back.2),
      );
      left = omega (arith, shorter, left);
      many = omega (arith, longer, many);
      room = omega (arith, c.push_reserved.ensures.capacity, c.loop.invariant.room);
    }

pub returns-clause-closed : goal.returns-clause-closed
returns-clause-closed c =
    let last = c.seats.inside.seat in
    let seats = last.seats in
    let order = c.close-closings.ensures.order in
    let back = c.loop.invariant.back in
    let left = c.loop.invariant.left in
    let end = c.loop.auto.counter-end in
    let over = c.loop-test.false in
    let two : length c.loop.closings.items ≡ 2 = omega (arith, left, end, over) in
    let cs =
    two_left c.close-closings.result.items c.loop.closings.items c.pop-2.new.self.items c.pop-3.new.self.items back.0
    c.in-Some-pop-2.registry c.in-Some-pop.pool back.1 c.in-Some-pop.ensures.items c.in-Some-pop-2.ensures.items two in
    let given = subst (λ xs. Each2 GivenBack back.0 xs) (sym c.reverse.ensures.items) back.2 in
    let parts = all_parts last c.close-closings.result.items back.0 c.in-Some-pop-2.registry c.in-Some-pop.pool _
    (seats_seen last).member c.seats.invariant order cs given c.closing_of-2.ensures c.closing_of-3.ensures in
    subst (λ s.
    AllClose s
    (record { slots = c.reverse.new.self; registry = c.closing_of-2.result; pool = c.closing_of-3.result }))
    c.seats.view_is
    (all_close seats (seats_seen last).member (ops_of (gates_of seats) order.order)
    (closes (gates_of seats) last c.close-closings.result.items order)
    (order_legal last c.close-closings.result.items c.seats.invariant
    (sym (as_long _ _ _ c.close-closings.ensures.closed)) order) _ parts
    c.close-closings.result.items back.0 c.in-Some-pop-2.registry c.in-Some-pop.pool c.seats.invariant
    c.close-closings.ensures.closed cs given
    c.closing_of-2.ensures c.closing_of-3.ensures (λ w. (order.home (whole last.shares w)).2))
