use Rattle.sysv_core.proofs.WorkedRun as run
use Rattle.sysv_core.proofs.laws.worked_run.Goals as goal

pub returns : goal.returns
returns c = run.worked_run
