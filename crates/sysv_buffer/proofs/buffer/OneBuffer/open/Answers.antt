use Rattle.std.proofs.Common.{rules}
use Rattle.sysv_buffer.proofs.OpenedMeetsRule.{parts}
use Rattle.sysv_buffer.proofs.buffer.OneBuffer.open.Goals as goal

pub split_seat-other-requires : goal.split_seat-other-requires
split_seat-other-requires g c = (search rules, search rules, parts _ _ (search rules))
