-- Each call is due whose index in the line was passed.
use Rattle.sysv_parking.proofs.Marks.{MarksLine}
use Rattle.sysv_parking.proofs.lines.Lines.note_line.Given as goal

abbrev pub invariant-loop-index : goal.invariant-loop-index
invariant-loop-index l = MarksLine l.line l.index l.fn.self l.self
