use Rattle.sysv_gate.proofs.LawsFromRule.{one_history}
use Rattle.sysv_gate.proofs.laws.one_history.Goals as goal

pub returns : goal.returns
returns g c = one_history _
