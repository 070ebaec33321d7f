use Rattle.sysv_clients.proofs.StreamLemmas.{refused}
use Rattle.sysv_clients.proofs.stream.receive_instrumented.Goals as goal

pub returns-in-Err-clause-takes : goal.returns-in-Err-clause-takes
returns-in-Err-clause-takes g c = refused c.args.receiving.now _ _ _
