use Rattle.std.proofs.Common.{rules, refl}
use Rattle.sysv_buffer.proofs.ManySplitKeepsRule.{many_starts}
use Rattle.sysv_buffer.proofs.many_board.lay.Goals as goal

pub new-requires : goal.new-requires
new-requires g c = many_starts c.args.cells _ _ c.requires refl refl refl refl refl (search rules)
