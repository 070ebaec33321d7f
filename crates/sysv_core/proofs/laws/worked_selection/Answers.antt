use Rattle.sysv_core.proofs.WorkedSelection as selection
use Rattle.sysv_core.proofs.laws.worked_selection.Goals as goal

pub returns : goal.returns
returns c = selection.worked_selection
