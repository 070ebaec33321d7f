use Rattle.std.proofs.Common.{length}
use Rattle.sysv_session.proofs.LayoutLemmas.{Spending}
use Rattle.sysv_session.proofs.outbox.spend_written.Given as goal

abbrev pub invariant-loop-marks : goal.invariant-loop-marks
invariant-loop-marks l = Spending l.n l.initial.marks.items l.initial.tally l.marks.items l.tally

abbrev pub decreases-loop-marks : goal.decreases-loop-marks
decreases-loop-marks l = length l.marks.items
