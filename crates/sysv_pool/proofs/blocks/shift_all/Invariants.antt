use Rattle.std.proofs.Common.{◌≡◌, ◌+◌, length}
use Rattle.sysv_pool.specs.Blocks.{contents_of}
use Rattle.sysv_pool.proofs.blocks.shift_all.Given as goal

-- No block is lost.
abbrev pub invariant-loop-rest : goal.invariant-loop-rest
invariant-loop-rest l = length (contents_of l.rest) + length (contents_of l.front)
    ≡ length (contents_of l.initial.rest) + length (contents_of l.initial.front)
