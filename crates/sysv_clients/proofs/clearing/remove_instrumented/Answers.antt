use Rattle.sysv_clients.proofs.ClearLemmas.{refused}
use Rattle.sysv_clients.proofs.clearing.remove_instrumented.Goals as goal

pub returns-in-Err-clause-clears : goal.returns-in-Err-clause-clears
returns-in-Err-clause-clears g c = refused c.args.cred _ _ _
