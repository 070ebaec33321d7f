use Rattle.sysv_script.proofs.CallNames.{call_unsplit, call_found}
use Rattle.sysv_script.proofs.call.call_of.Goals as goal

pub returns-in_err-name-clause-says : goal.returns-in_err-name-clause-says
returns-in_err-name-clause-says c = rw c.from_residual.ensures (call_unsplit c.args.words.now c.in_err-name.ensures)

pub returns-clause-says : goal.returns-clause-says
returns-clause-says c =
    let w = c.in_ok-name in
    call_found c.args.words.now w.name.now w.arguments.now c.named.result w.ensures c.named.ensures.says
