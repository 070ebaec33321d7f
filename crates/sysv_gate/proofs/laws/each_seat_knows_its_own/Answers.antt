use Rattle.std.proofs.Common.{subst}
use Rattle.sysv_gate.specs.History.{Moves}
use Rattle.sysv_gate.specs.Gates.{KnowsItsOwn}
use Rattle.sysv_gate.proofs.laws.each_seat_knows_its_own.Goals as goal

pub returns : goal.returns
returns g c = subst (KnowsItsOwn (Moves g.O.Object.meaning g.O.Object.counted)) c.seat.view_is
    (record { legal = c.seat.invariant.rests.0.legal; own = c.seat.invariant.rests.0.own })
