use Rattle.std.proofs.Common.{rules, ◌+◌, refl}
use Rattle.sysv_bells.proofs.OpenedMeetsRule.{opens}
use Rattle.sysv_bells.proofs.bells.Bells.open.Goals as goal

pub of_words-requires : goal.of_words-requires
of_words-requires c = opens _ (c.args.told + 2) _ (search rules) refl
