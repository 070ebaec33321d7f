use Rattle.sysv_pool.proofs.Law as law
use Rattle.sysv_pool.proofs.laws.pool_law.Goals as goal

pub returns : goal.returns
returns c = law.pool_law
