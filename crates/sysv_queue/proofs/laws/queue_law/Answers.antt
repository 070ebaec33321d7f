use Rattle.sysv_queue.proofs.Law as law
use Rattle.sysv_queue.proofs.laws.queue_law.Goals as goal

pub returns : goal.returns
returns c = law.queue_law
