use Rattle.std.proofs.Common.{rules, subst}
use Rattle.sysv_service.specs.Sharing.{AreJoined}
use Rattle.sysv_service.specs.Banked.{seats_seen}
use Rattle.sysv_service.proofs.PlacesShown.{of_bank, are_of}
use Rattle.sysv_service.proofs.SplitJoinEnd.{are_joined}
use Rattle.sysv_service.proofs.gates.Gates.join.Goals as goal

pub join-requires-clause-seat : goal.join-requires-clause-seat
join-requires-clause-seat c = of_bank c.self.inside.bank c.seats.inside.seat _ _ c.self.invariant.0 c.seats.invariant
    c.self.view_is c.seats.view_is c.requires.seats

pub join-requires-clause-other : goal.join-requires-clause-other
join-requires-clause-other c = of_bank c.self.inside.bank c.other.inside.seat _ _ c.self.invariant.0 c.other.invariant
    c.self.view_is c.other.view_is c.requires.other

pub returns-clause-seats : goal.returns-clause-seats
returns-clause-seats c = search (rules, are_of)

pub returns-clause-joined : goal.returns-clause-joined
returns-clause-joined c =
    let after = c.join.new.seat in
    subst (λ b. AreJoined b c.args.other (seats_seen after)) c.seats.view_is
    (subst (λ o. AreJoined (seats_seen c.seats.inside.seat) o (seats_seen after)) c.other.view_is
    (are_joined c.self.inside.bank c.seats.inside.seat c.other.inside.seat after c.seats.invariant
    (of_bank c.self.inside.bank c.seats.inside.seat _ _ c.self.invariant.0 c.seats.invariant c.self.view_is
    c.seats.view_is c.requires.seats)
    (of_bank c.self.inside.bank c.other.inside.seat _ _ c.self.invariant.0 c.other.invariant c.self.view_is
    c.other.view_is c.requires.other) c.join.ensures.gates c.join.ensures.joined c.join.ensures.order))
