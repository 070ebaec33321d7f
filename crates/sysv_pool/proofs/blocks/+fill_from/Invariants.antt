use Rattle.std.proofs.Common.{length, ◌-◌}
use Rattle.sysv_model.specs.Pool.{blocks_for}
use Rattle.sysv_pool.proofs.blocks.+fill_from.Given as goal

-- The number of blocks that are still to be filled.
abbrev pub decreases-fill_from : goal.decreases-fill_from
decreases-fill_from l = blocks_for (length l.body.now) - l.k
