use Rattle.std.proofs.Common.{rules}
use Rattle.sysv_eventcount.proofs.LearnedBefore.{learns_before}
use Rattle.sysv_eventcount.proofs.eventcount.Word+Advances.await_at_least.Goals as goal

pub returns-in-Reached-clause-learned : goal.returns-in-Reached-clause-learned
returns-in-Reached-clause-learned g c = learns_before _ _ _ c.loop.invariant.seat c.loop.invariant.later (search rules)
