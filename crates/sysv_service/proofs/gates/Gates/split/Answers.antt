use Rattle.std.proofs.Common.{refl, subst}
use Rattle.sysv_service.specs.Sharing.{AreSplit}
use Rattle.sysv_service.specs.Banked.{seats_seen}
use Rattle.sysv_service.proofs.PlacesShown.{of_bank, are_of}
use Rattle.sysv_service.proofs.SplitJoinEnd.{are_split}
use Rattle.sysv_service.proofs.gates.Gates.split.Goals as goal

pub split_off-seat-requires : goal.split_off-seat-requires
split_off-seat-requires c = of_bank c.self.inside.bank c.seats.inside.seat _ _ c.self.invariant.0 c.seats.invariant
    c.self.view_is c.seats.view_is c.requires

pub returns-clause-seats : goal.returns-clause-seats
returns-clause-seats c =
    are_of c.self.inside.bank c.split_off-seat.new.seat _ _ c.self.view_is refl c.split_off-seat.ensures.gates

pub returns-clause-other : goal.returns-clause-other
returns-clause-other c =
    let before = c.seats.inside.seat in
    let after = c.split_off-seat.new.seat in
    let other = c.split_off-seat.result in
    let is = c.split_off-seat.ensures.seats in (
      are_of c.self.inside.bank other _ _ c.self.view_is refl is.0,
      subst (λ b. AreSplit b (seats_seen after) (seats_seen other)) c.seats.view_is
          (are_split c.self.inside.bank before after other c.seats.invariant
          (of_bank c.self.inside.bank before _ _ c.self.invariant.0 c.seats.invariant c.self.view_is c.seats.view_is
          c.requires) c.split_off-seat.ensures.gates is.0 is.1 is.2 c.split_off-seat.ensures.order),
    )
