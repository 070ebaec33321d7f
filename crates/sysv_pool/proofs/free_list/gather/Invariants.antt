use Rattle.std.proofs.Common.{◌≡◌, ◌+◌, ◌⊎◌, ◌≤◌, length, take}
use Rattle.std.specs.List.{sum}
use Rattle.sysv_pool.proofs.free_list.gather.Given as goal

-- No block is lost, and the size classes so far are empty unless enough blocks are loose.
abbrev pub invariant-loop-place : goal.invariant-loop-place
invariant-loop-place l = record {
  all : l.loose + sum l.size_classes.items ≡ l.initial.loose + sum l.initial.size_classes.items;
  enough : (l.needed ≤ l.loose) ⊎ (sum (take l.place l.size_classes.items) ≡ 0);
  places : length l.size_classes.items ≡ length l.initial.size_classes.items;
}
