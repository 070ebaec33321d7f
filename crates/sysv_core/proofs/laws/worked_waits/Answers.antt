use Rattle.sysv_core.proofs.WorkedWaits as waits
use Rattle.sysv_core.proofs.laws.worked_waits.Goals as goal

pub returns : goal.returns
returns c = waits.worked_waits
