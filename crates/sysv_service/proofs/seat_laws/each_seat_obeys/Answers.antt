use Rattle.std.proofs.Common.{subst}
use Rattle.sysv_service.specs.SeenHistories.{EachKnowsItsOwn, ObeysIfOpen}
use Rattle.sysv_service.specs.Banked.{seats_seen}
use Rattle.sysv_service.proofs.SeenObeysLaw.{each_obeys}
use Rattle.sysv_service.proofs.SplitJoinEnd.{seats_know}
use Rattle.sysv_service.proofs.seat_laws.each_seat_obeys.Goals as goal

pub returns-clause-knows : goal.returns-clause-knows
returns-clause-knows c = subst EachKnowsItsOwn c.seats.view_is
    (seats_know c.seats.inside.seat.seats (seats_seen c.seats.inside.seat).member c.seats.invariant
    c.each_seat_of_a_bank_knows_its_own.ensures)

pub returns-clause-obeys : goal.returns-clause-obeys
returns-clause-obeys c =
    subst ObeysIfOpen c.seats.view_is
    (each_obeys (seats_seen c.seats.inside.seat)
    (seats_know c.seats.inside.seat.seats (seats_seen c.seats.inside.seat).member c.seats.invariant
    c.each_seat_of_a_bank_knows_its_own.ensures) c.seen_histories_obey.ensures)
