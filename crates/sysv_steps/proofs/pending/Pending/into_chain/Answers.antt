use Rattle.std.proofs.Common.{ap}
use Rattle.sysv_pool.specs.Chain.{Chained}
use Rattle.sysv_steps.proofs.pending.Pending.into_chain.Goals as goal

pub returns-in-At : goal.returns-in-At
returns-in-At c = λ text. rw c.in-At.is (c.into_chain.ensures text)

pub returns-in-Waits : goal.returns-in-Waits
returns-in-Waits c = λ text. rw c.in-Waits.is (ap (λ (x : Chained). x.blocks) c.empty.ensures)
