use Rattle.std.proofs.Common.{◌≡◌, ◌+◌, ◌≤◌, length}
use Rattle.std.specs.List.{All}
use Rattle.sysv_model.specs.declared.limits.TheConstants.{MAX_BLOCKS as most_blocks}
use Rattle.sysv_pool.specs.Blocks.{contents_of, blocks_on}
use Rattle.sysv_pool.proofs.size_class.loosen.Given as goal

-- No block is lost.
abbrev pub invariant-loop-chains : goal.invariant-loop-chains
invariant-loop-chains l = record {
  same : All (λ link. length (contents_of link) ≡ l.each) l.chains.items;
  all : blocks_on l.chains.items + l.loose ≡ blocks_on l.initial.chains.items + l.initial.loose;
}

abbrev pub decreases-loop-chains : goal.decreases-loop-chains
decreases-loop-chains l = goal.left-loop-chains l
