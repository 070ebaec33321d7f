use Rattle.sysv_steps.proofs.OneEffect.{one_effect}
use Rattle.sysv_steps.proofs.laws.each_has_one_effect.Goals as goal

pub returns : goal.returns
returns c = one_effect
