use Rattle.std.proofs.Common.{rules}
use Rattle.sysv_bells.proofs.StepKeepsRule.{splits}
use Rattle.sysv_bells.proofs.bells.Bells.teller.Goals as goal

pub split_seat-token-requires : goal.split_seat-token-requires
split_seat-token-requires c = (search rules, search rules, splits _ _ _)
