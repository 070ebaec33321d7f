use Rattle.sysv_bells.proofs.LawsFromRule.{nothing_waits}
use Rattle.sysv_bells.proofs.laws.no_wake_up_is_lost.Goals as goal

pub returns : goal.returns
returns c = nothing_waits
