use Rattle.std.proofs.Common.{◌∙◌, sym}
use Rattle.sysv_session.proofs.LayoutLemmas.{spending_ends}
use Rattle.sysv_session.proofs.outbox.spend_written.Goals as goal

pub returns-clause-marks : goal.returns-clause-marks
returns-clause-marks c =
    (spending_ends c.args.n c.args.marks.now.items c.args.tally.now c.loop-marks.marks.items c.loop-marks.tally
    (sym c.begins_passed.ensures ∙ c.loop-marks-test.false) c.loop-marks.invariant).0

pub returns-clause-tally : goal.returns-clause-tally
returns-clause-tally c =
    (spending_ends c.args.n c.args.marks.now.items c.args.tally.now c.loop-marks.marks.items c.loop-marks.tally
    (sym c.begins_passed.ensures ∙ c.loop-marks-test.false) c.loop-marks.invariant).1
