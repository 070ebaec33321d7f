use Rattle.std.proofs.Common.{◌≡◌, length}
use Rattle.sysv_pool.specs.Blocks.{contents_of}
use Rattle.sysv_pool.proofs.blocks.linked.Given as goal

abbrev pub invariant-loop : goal.invariant-loop
invariant-loop l = length (contents_of l.link) ≡ l.counter
