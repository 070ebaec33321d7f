use Rattle.sysv_steps.proofs.EachAsked.{each_asked}
use Rattle.sysv_steps.proofs.laws.each_op_is_asked_for.Goals as goal

pub returns : goal.returns
returns c = each_asked
