use Rattle.sysv_steps.proofs.PlaysEndAlike.{one_end}
use Rattle.sysv_steps.proofs.laws.one_answer.Goals as goal

pub returns : goal.returns
returns c = one_end
