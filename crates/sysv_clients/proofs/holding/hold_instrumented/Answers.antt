use Rattle.sysv_clients.proofs.HoldLemmas.{unbegun}
use Rattle.sysv_clients.proofs.holding.hold_instrumented.Goals as goal

pub returns-in-Err-clause-holds : goal.returns-in-Err-clause-holds
returns-in-Err-clause-holds g c = unbegun c.args.receiving.now _ _ _
