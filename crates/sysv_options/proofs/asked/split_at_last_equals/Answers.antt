-- A text has no mark, or is split at its last one.
use Rattle.std.proofs.Common.{arith}
use Rattle.sysv_options.proofs.EntranceLemmas.{parted}
use Rattle.sysv_options.proofs.asked.split_at_last_equals.Goals as goal

pub returns : goal.returns
returns c = parted 61 c.args.text.now c.rsplit_once.result (omega arith) c.rsplit_once.ensures.cases
