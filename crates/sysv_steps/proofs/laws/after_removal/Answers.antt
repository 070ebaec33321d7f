use Rattle.sysv_steps.proofs.Removals.{each_told}
use Rattle.sysv_steps.proofs.laws.after_removal.Goals as goal

pub returns : goal.returns
returns c = each_told
