use Rattle.std.proofs.Common.{rules, refl, ◌+◌, ◌*◌}
use Rattle.sysv_doorbells.proofs.OpenedMeetsRule.{opens}
use Rattle.sysv_doorbells.proofs.doorbells.Doorbells.open.Goals as goal

pub of_words-requires : goal.of_words-requires
of_words-requires c = opens _ (2 * c.args.many + 2) _ (search rules) refl
