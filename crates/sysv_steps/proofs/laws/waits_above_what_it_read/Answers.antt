use Rattle.sysv_steps.proofs.SendKeepsRead.{each_read}
use Rattle.sysv_steps.proofs.laws.waits_above_what_it_read.Goals as goal

pub returns : goal.returns
returns c = each_read
