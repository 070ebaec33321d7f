use Rattle.sysv_engine.proofs.CallsLetIn.{each_call}
use Rattle.sysv_engine.proofs.laws.each_call_is_let_in.Goals as goal

pub returns : goal.returns
returns c = each_call
