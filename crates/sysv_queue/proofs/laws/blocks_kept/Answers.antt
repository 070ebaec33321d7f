use Rattle.sysv_queue.proofs.BlocksKept.{turn_keeps_blocks, slot_keeps_blocks}
use Rattle.sysv_queue.proofs.laws.blocks_kept.Goals as goal

pub returns : goal.returns
returns c = record { turn = turn_keeps_blocks; slot = slot_keeps_blocks }
