use Rattle.std.proofs.Common.{◌≡◌, ◌+◌, []}
use Rattle.sysv_messages.specs.Texts.{all_blocks}
use Rattle.sysv_messages.proofs.chains.clear.Given as goal

-- The chain has the blocks of the chains taken so far.
abbrev pub invariant-loop-place : goal.invariant-loop-place
invariant-loop-place l = record {
  all : l.all.blocks + all_blocks l.chains.items ≡ all_blocks l.initial.chains.items;
  bare : l.all.bytes ≡ [];
}

abbrev pub decreases-loop-place : goal.decreases-loop-place
decreases-loop-place l = goal.left-loop-place l
