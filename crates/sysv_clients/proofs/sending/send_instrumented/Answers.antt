use Rattle.sysv_clients.proofs.SendLemmas.{refused_ahead}
use Rattle.sysv_clients.proofs.sending.send_instrumented.Goals as goal

pub returns-in-Err-clause-sends : goal.returns-in-Err-clause-sends
returns-in-Err-clause-sends g c = refused_ahead c.args.sending.now _ _ _
