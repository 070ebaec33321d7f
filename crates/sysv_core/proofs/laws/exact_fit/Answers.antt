use Rattle.sysv_core.proofs.WorkedRun as run
use Rattle.sysv_core.proofs.laws.exact_fit.Goals as goal

pub returns : goal.returns
returns c = run.exact_fit
