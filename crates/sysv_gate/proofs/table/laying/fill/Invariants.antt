use Rattle.std.proofs.Common.{◌≡◌, ◌+◌, ◌≤◌, length}
use Rattle.std.specs.Prelude.{vec_len, vec_capacity}
use Rattle.sysv_gate.proofs.Laid.{IsFilling}
use Rattle.sysv_gate.proofs.table.laying.fill.Given as goal

-- The objects moved so far.
abbrev pub invariant-loop-object : goal.invariant-loop-object
invariant-loop-object g l = record {
  filling : IsFilling l.fn.objects.items l.objects.items l.spots.items;
  room : length l.objects.items + length l.spots.items ≤ vec_capacity l.spots;
  same : vec_capacity l.objects ≡ vec_capacity l.fn.objects;
}

-- Each round leaves one object fewer.
abbrev pub decreases-loop-object : goal.decreases-loop-object
decreases-loop-object g l = vec_len l.objects
