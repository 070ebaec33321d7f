use Rattle.std.proofs.Common.{◌+◌, ◌≤◌, length}
use Rattle.std.specs.Prelude.{vec_len, vec_capacity}
use Rattle.sysv_gate.proofs.Laid.{IsEmptying}
use Rattle.sysv_gate.proofs.table.laying.empty.Given as goal

-- The objects moved so far.
abbrev pub invariant-loop-spot : goal.invariant-loop-spot
invariant-loop-spot g l = record {
  emptying : IsEmptying l.fn.spots.items l.objects.items l.spots.items;
  room : length l.objects.items + length l.spots.items ≤ vec_capacity l.objects;
}

-- Each round leaves one slot fewer.
abbrev pub decreases-loop-spot : goal.decreases-loop-spot
decreases-loop-spot g l = vec_len l.spots
