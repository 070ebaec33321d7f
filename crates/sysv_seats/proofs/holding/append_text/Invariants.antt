-- The blocks so far are appended, and there is room for the others.
use Rattle.std.proofs.Common.{◌≡◌, ◌≤◌, ◌*◌, length, take}
use Rattle.std.specs.Prelude.{vec_capacity}
use Rattle.sysv_model.specs.declared.limits.TheConstants.{BLOCK_BYTES}
use Rattle.sysv_seats.proofs.holding.append_text.Given as goal

abbrev pub invariant-loop-k : goal.invariant-loop-k
invariant-loop-k l = record {
  so_far : l.bytes.items ≡ take (l.k * BLOCK_BYTES) l.text;
  room : length l.text ≤ vec_capacity l.bytes;
}
