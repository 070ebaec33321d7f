use Rattle.sysv_script.proofs.CallNames.{no_go}
use Rattle.sysv_script.proofs.line.go_of.Goals as goal

pub returns-in_err-actor-clause-says : goal.returns-in_err-actor-clause-says
returns-in_err-actor-clause-says c = rw c.from_residual.ensures (no_go c.args.arguments.now c.in_err-actor.ensures)
