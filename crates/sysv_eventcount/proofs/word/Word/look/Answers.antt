use Rattle.std.proofs.Common.{rules}
use Rattle.sysv_eventcount.proofs.StepKeepsRule.{looks}
use Rattle.sysv_eventcount.proofs.word.Word.look.Goals as goal

pub load-requires : goal.load-requires
load-requires g c = (search rules, search rules, looks _ _ _ _ c.seat.invariant.unspent)
