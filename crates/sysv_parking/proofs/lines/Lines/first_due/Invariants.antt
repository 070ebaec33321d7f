-- What the lines are seen as stays.
use Rattle.std.proofs.Common.{◌≡◌}
use Rattle.sysv_parking.proofs.lines.Lines.first_due.Given as goal

abbrev pub invariant-loop : goal.invariant-loop
invariant-loop l = l.self ≡ l.fn.self
