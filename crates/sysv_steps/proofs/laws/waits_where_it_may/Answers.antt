use Rattle.sysv_steps.proofs.Patience.{each_may}
use Rattle.sysv_steps.proofs.laws.waits_where_it_may.Goals as goal

pub returns : goal.returns
returns c = each_may
