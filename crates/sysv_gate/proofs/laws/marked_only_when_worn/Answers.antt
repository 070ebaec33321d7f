use Rattle.sysv_gate.proofs.LawsFromRule.{marked_only}
use Rattle.sysv_gate.proofs.laws.marked_only_when_worn.Goals as goal

pub returns : goal.returns
returns g c = marked_only _
