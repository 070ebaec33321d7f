use Rattle.std.proofs.Common.{◌≡◌, ◌+◌, [], None, length}
use Rattle.std.specs.List.{AllWithin}
use Rattle.sysv_messages.specs.Texts.{all_blocks}
use Rattle.sysv_messages.proofs.chains.take_all.Given as goal

-- The chain has the blocks of the chains taken so far, and their places have none.
abbrev pub invariant-loop-place : goal.invariant-loop-place
invariant-loop-place l = record {
  all : l.all.blocks + all_blocks l.chains.items ≡ all_blocks l.initial.chains.items;
  text : l.all.bytes ≡ [];
  bare : AllWithin (λ chain. chain ≡ None) l.chains.items 0 l.place;
  places : length l.chains.items ≡ length l.initial.chains.items;
}
