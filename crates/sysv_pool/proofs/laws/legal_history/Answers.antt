use Rattle.sysv_pool.proofs.Legality.{legal_empty, legal_more}
use Rattle.sysv_pool.proofs.laws.legal_history.Goals as goal

pub returns : goal.returns
returns c = record { empty = legal_empty; more = legal_more }
