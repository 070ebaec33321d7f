use Rattle.sysv_steps.proofs.TendedByStep.{each_tended}
use Rattle.sysv_steps.proofs.laws.each_is_tended.Goals as goal

pub returns : goal.returns
returns c = each_tended
