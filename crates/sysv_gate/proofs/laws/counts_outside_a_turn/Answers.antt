use Rattle.sysv_gate.proofs.LawsFromRule.{counts_outside}
use Rattle.sysv_gate.proofs.laws.counts_outside_a_turn.Goals as goal

pub returns : goal.returns
returns g c = counts_outside _ g.O.Object.counted
