use Rattle.std.proofs.Common.{◌-◌}
use Rattle.sysv_session.proofs.LayoutLemmas.{Nearing}
use Rattle.sysv_session.proofs.outbox.bring_nearer.Given as goal

abbrev pub invariant-loop : goal.invariant-loop
invariant-loop l = Nearing l.n (l.end - l.counter) l.initial.marks.items l.marks.items
