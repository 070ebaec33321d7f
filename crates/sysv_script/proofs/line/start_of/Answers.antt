use Rattle.sysv_script.proofs.CallNames.{start_without_actor, start_without_call}
use Rattle.sysv_script.proofs.line.start_of.Goals as goal

pub returns-in_err-actor-clause-says : goal.returns-in_err-actor-clause-says
returns-in_err-actor-clause-says c =
    rw c.from_residual.ensures (start_without_actor c.args.words.now c.in_err-actor.ensures)

pub returns-in_err-call-clause-says : goal.returns-in_err-call-clause-says
returns-in_err-call-clause-says c =
    rw c.from_residual-in_err-call.ensures
    (start_without_call c.args.words.now _ _ c.in_ok-actor.ensures c.in_err-call.ensures.says)
