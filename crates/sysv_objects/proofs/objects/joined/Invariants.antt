use Rattle.std.proofs.Common.{◌≡◌, ◌+◌, []}
use Rattle.sysv_objects.specs.Objects.{blocks_in}
use Rattle.sysv_objects.proofs.objects.joined.Given as goal

-- The chain has the blocks of the slots ended so far.
abbrev pub invariant-loop-slot : goal.invariant-loop-slot
invariant-loop-slot l = record {
  all : l.chain.blocks + blocks_in l.slots.items ≡ blocks_in l.initial.slots.items;
  bare : l.chain.bytes ≡ [];
}

abbrev pub decreases-loop-slot : goal.decreases-loop-slot
decreases-loop-slot l = goal.left-loop-slot l
