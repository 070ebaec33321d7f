-- One line changes.
use Rattle.std.proofs.Common.{subst, sym}
use Rattle.sysv_parking.specs.Places.{TakesOut}
use Rattle.sysv_parking.proofs.Places.{removes_at}
use Rattle.sysv_parking.proofs.lines.remove.Goals as goal

pub returns : goal.returns
returns c =
    removes_at (λ q. q.items) c.args.lines.now.items c.args.line c.args.place c.in-Some.line.now c.keep_less.new.line
    c.in-Some.ensures.item.3.0 c.in-Some.ensures.value
    (subst (TakesOut c.args.place c.in-Some.line.now.items) (sym c.keep_less.ensures) c.take_out.ensures)
