use Rattle.sysv_bells.proofs.TakenWords.{reads_on}
use Rattle.sysv_bells.proofs.bells.Bells.take_changes.Goals as goal

pub loop-word-preserved : goal.loop-word-preserved
loop-word-preserved c =
    reads_on c.args.seat.now c.loop-word.seat c.take_word-found.new.seat c.args.changes.now c.loop-word.changes
    c.join.new.changes c.loop-word.word c.take_word-found.result c.loop-word.invariant c.take_word-found.ensures
    c.join.ensures
