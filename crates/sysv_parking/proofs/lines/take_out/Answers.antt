-- The place is taken out at its index, or is not there.
use Rattle.std.proofs.Common.{◌<◌, deque_len, subst, sym, arith}
use Rattle.sysv_parking.specs.Places.{TakesOut}
use Rattle.sysv_parking.proofs.Places.{on_some, takes_none, takes_one}
use Rattle.sysv_parking.proofs.lines.take_out.Goals as goal

pub returns-in-Some : goal.returns-in-Some
returns-in-Some c =
    let low : c.in-Some.index < deque_len c.args.line.now = omega (arith, c.args.line.now.ok, c.in-Some.ensures.0) in
    let gone = on_some c.remove.result _ (c.remove.ensures.succeeds 0 low) c.remove.ensures.items in
    subst (TakesOut c.args.place c.args.line.now.items) (sym gone)
    (takes_one c.args.place c.args.line.now.items c.in-Some.index c.in-Some.ensures)

pub returns-in_default : goal.returns-in_default
returns-in_default c = takes_none c.args.place c.args.line.now.items c.in_default.ensures
