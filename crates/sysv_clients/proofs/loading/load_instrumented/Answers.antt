use Rattle.sysv_clients.proofs.LoadLemmas.{refused_ahead}
use Rattle.sysv_clients.proofs.loading.load_instrumented.Goals as goal

pub returns-in-Err-clause-loads : goal.returns-in-Err-clause-loads
returns-in-Err-clause-loads g c = refused_ahead c.args.loading.now _ _ _
