use Rattle.sysv_eventcount.proofs.LawsFromRule.{seen_first}
use Rattle.sysv_eventcount.proofs.laws.no_value_is_invented.Goals as goal

pub returns : goal.returns
returns c = seen_first
