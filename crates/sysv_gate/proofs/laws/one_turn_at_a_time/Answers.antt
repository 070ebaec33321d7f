use Rattle.sysv_gate.proofs.LawsFromRule.{one_turn}
use Rattle.sysv_gate.proofs.laws.one_turn_at_a_time.Goals as goal

pub returns : goal.returns
returns g c = one_turn _
