use Rattle.sysv_queue.proofs.WorkedRemoval as worked
use Rattle.sysv_queue.proofs.laws.worked_removal.Goals as goal

pub returns : goal.returns
returns c = record { history = worked.worked_removal; others = worked.other_replies; wrong = worked.no_wrong_reply }
