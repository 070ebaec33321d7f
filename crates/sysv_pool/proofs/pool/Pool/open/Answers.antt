use Rattle.std.proofs.Common.{refl}
use Rattle.sysv_pool.proofs.Turns.{stands_empty}
use Rattle.sysv_pool.proofs.pool.Pool.open.Goals as goal

pub returns-clause-opened : goal.returns-clause-opened
returns-clause-opened c = (refl, stands_empty c.args.blocks)
