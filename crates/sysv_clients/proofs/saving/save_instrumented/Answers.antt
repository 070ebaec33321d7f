use Rattle.sysv_clients.proofs.SaveLemmas.{refused}
use Rattle.sysv_clients.proofs.saving.save_instrumented.Goals as goal

pub returns-in-Err-clause-saves : goal.returns-in-Err-clause-saves
returns-in-Err-clause-saves g c = refused c.args.saving.now _ _ _ _
