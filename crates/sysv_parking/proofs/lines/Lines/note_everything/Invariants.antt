-- Each call is due whose place was passed.
use Rattle.sysv_parking.proofs.Marks.{MarksAll}
use Rattle.sysv_parking.proofs.lines.Lines.note_everything.Given as goal

abbrev pub invariant-loop-place : goal.invariant-loop-place
invariant-loop-place l = MarksAll l.place l.fn.self l.self
