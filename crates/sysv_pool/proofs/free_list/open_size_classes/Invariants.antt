use Rattle.std.proofs.Common.{◌≡◌, ◌≤◌, length, vec_capacity}
use Rattle.std.specs.List.{sum}
use Rattle.sysv_pool.proofs.free_list.open_size_classes.Given as goal

abbrev pub invariant-loop-place : goal.invariant-loop-place
invariant-loop-place l = record {
  empty : sum l.size_classes.items ≡ 0;
  long : length l.size_classes.items ≡ l.place;
  room : 128 ≤ vec_capacity l.size_classes;
}
