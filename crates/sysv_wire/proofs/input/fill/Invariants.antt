-- The bytes read so far are at the start, and fewer remain each time.
use Rattle.std.proofs.Common.{◌≡◌, ◌-◌, ◌≤◌, length, take}
use Rattle.std.specs.Io.KnownBytes.{Consumes}
use Rattle.sysv_model.specs.Instrumented.{failures_of, stream_name, stream_of}
use Rattle.sysv_wire.proofs.input.fill.Given as goal

abbrev pub invariant-loop-count : goal.invariant-loop-count
invariant-loop-count g l = record {
  within : l.count ≤ length l.bytes;
  so_far : Consumes (g.R.Read.remaining (stream_of l.initial.reader)) (g.R.Read.remaining (stream_of l.reader))
      (take l.count l.bytes);
  same : stream_name l.reader ≡ stream_name l.initial.reader;
  failed : failures_of l.reader ≡ failures_of l.initial.reader;
}

abbrev pub decreases-loop-count : goal.decreases-loop-count
decreases-loop-count g l = length l.bytes - l.count
