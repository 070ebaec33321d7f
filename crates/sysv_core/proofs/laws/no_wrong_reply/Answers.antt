use Rattle.sysv_core.proofs.WorkedRun as run
use Rattle.sysv_core.proofs.laws.no_wrong_reply.Goals as goal

pub returns : goal.returns
returns c = run.no_wrong_reply
