use Rattle.std.proofs.Common.{rules, refl}
use Rattle.sysv_buffer.proofs.OpenedMeetsRule.{starts}
use Rattle.sysv_buffer.proofs.board.lay.Goals as goal

pub new-requires : goal.new-requires
new-requires g c = starts c.args.cells _ _ c.requires refl refl refl (search rules)
