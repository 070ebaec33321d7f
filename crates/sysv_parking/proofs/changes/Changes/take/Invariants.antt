-- The words before this one have no bits.
use Rattle.std.proofs.Common.{◌≡◌, ◌<◌, ℕ}
use Rattle.std.specs.Prelude.{slice_index}
use Rattle.sysv_parking.proofs.changes.Changes.take.Given as goal

abbrev pub invariant-loop-at : goal.invariant-loop-at
invariant-loop-at l = record {
  same : l.self-inside ≡ l.initial.self-inside;
  none : (k : ℕ) → k < l.at → slice_index l.self-inside.words k ≡ 0;
}
