use Rattle.std.proofs.Common.{rules}
use Rattle.sysv_buffer.proofs.ManySplitKeepsRule.{many_splits}
use Rattle.sysv_buffer.proofs.many.ManyBuffer.split.Goals as goal

pub split_seat-token-requires : goal.split_seat-token-requires
split_seat-token-requires g c = (search rules, search rules, many_splits _ _)
