use Rattle.sysv_doorbells.proofs.LawsFromRule.{nothing_rang}
use Rattle.sysv_doorbells.proofs.laws.no_wake_up_is_lost.Goals as goal

pub returns : goal.returns
returns c = nothing_rang
