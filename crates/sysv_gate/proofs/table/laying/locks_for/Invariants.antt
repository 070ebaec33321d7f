use Rattle.std.proofs.Common.{◌≤◌, length}
use Rattle.std.specs.Prelude.{vec_capacity}
use Rattle.sysv_gate.specs.Laying.{AreLocksUpTo}
use Rattle.sysv_gate.proofs.table.laying.locks_for.Given as goal

-- The locks made so far.
abbrev pub invariant-loop-place : goal.invariant-loop-place
invariant-loop-place g l = record {
  locks : AreLocksUpTo l.objects.items l.place l.locks.items;
  room : length l.objects.items ≤ vec_capacity l.locks;
}
