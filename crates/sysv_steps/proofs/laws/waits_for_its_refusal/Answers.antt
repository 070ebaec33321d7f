use Rattle.sysv_steps.proofs.WaitsAfterRefusal.{each_waits}
use Rattle.sysv_steps.proofs.laws.waits_for_its_refusal.Goals as goal

pub returns : goal.returns
returns c = each_waits
