use Rattle.sysv_script.proofs.CallNames.{no_step}
use Rattle.sysv_script.proofs.line.step_of.Goals as goal

pub returns-in_err-actor-clause-says : goal.returns-in_err-actor-clause-says
returns-in_err-actor-clause-says c = rw c.from_residual.ensures (no_step c.args.arguments.now c.in_err-actor.ensures)
