use Rattle.sysv_rules.proofs.Choice as choice
use Rattle.sysv_rules.proofs.laws.named_or_none.Goals as goal

pub returns : goal.returns
returns c = choice.named_or_none
