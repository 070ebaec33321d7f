use Rattle.std.proofs.Common.{rules, arith}
use Rattle.sysv_eventcount.proofs.StepKeepsRule.{splits}
use Rattle.sysv_eventcount.proofs.word.Word.split.Goals as goal

pub split_seat-token-requires : goal.split_seat-token-requires
split_seat-token-requires g c = (search rules, search rules, splits _ _ _ c.seat.invariant.not_cleared (omega arith))
