use Rattle.std.proofs.Common.{rules}
use Rattle.sysv_buffer.proofs.ManyStepKeepsRule.{counts_put}
use Rattle.sysv_buffer.proofs.many.ManyBuffer.put_count.Goals as goal

pub load-requires : goal.load-requires
load-requires g c =
    let rest = c.seat.invariant in (search rules, search rules, counts_put _ _ _ rest.fills rest.empties)
