use Rattle.sysv_script.proofs.CallNames.{no_pool}
use Rattle.sysv_script.proofs.line.pool_of.Goals as goal

pub returns-in_err-blocks-clause-says : goal.returns-in_err-blocks-clause-says
returns-in_err-blocks-clause-says c = rw c.from_residual.ensures (no_pool c.args.arguments.now c.in_err-blocks.ensures)
