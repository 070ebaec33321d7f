use Rattle.sysv_bells.proofs.TakenWords.{HasRead}
use Rattle.sysv_bells.proofs.bells.Bells.take_changes.Given as goal

-- The words before this one are read.
abbrev pub invariant-loop-word : goal.invariant-loop-word
invariant-loop-word l = HasRead l.fn.seat l.fn.changes l.word l.seat l.changes
