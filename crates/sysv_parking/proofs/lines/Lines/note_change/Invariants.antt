-- Each call at the slot is due whose place was passed.
use Rattle.sysv_parking.proofs.Marks.{MarksSlot}
use Rattle.sysv_parking.proofs.lines.Lines.note_change.Given as goal

abbrev pub invariant-loop-place : goal.invariant-loop-place
invariant-loop-place l = MarksSlot l.slot l.place l.fn.self l.self
