use Rattle.std.proofs.Common.{subst}
use Rattle.sysv_gate.specs.History.{Moves}
use Rattle.sysv_bank.specs.Banks.{EachKnowsItsOwn}
use Rattle.sysv_bank.proofs.Passes.{each_known}
use Rattle.sysv_bank.proofs.laws.each_seat_of_a_bank_knows_its_own.Goals as goal

pub returns : goal.returns
returns g c = subst (λ p. EachKnowsItsOwn (Moves g.O.Object.meaning g.O.Object.counted) p.seats) c.seat.view_is
    (each_known _ c.seat.inside c.seat.invariant)
