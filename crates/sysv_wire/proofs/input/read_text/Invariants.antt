-- The bytes read so far are the body, and fewer remain each time.
use Rattle.std.proofs.Common.{◌≡◌, ◌+◌, length}
use Rattle.std.specs.Io.KnownBytes.{Consumes}
use Rattle.sysv_model.specs.Instrumented.{failures_of, stream_name, stream_of}
use Rattle.sysv_wire.proofs.input.read_text.Given as goal

abbrev pub invariant-loop-left : goal.invariant-loop-left
invariant-loop-left g l = record {
  count : length l.text + l.left ≡ l.len;
  so_far : Consumes (g.R.Read.remaining (stream_of l.initial.reader)) (g.R.Read.remaining (stream_of l.reader)) l.text;
  same : stream_name l.reader ≡ stream_name l.initial.reader;
  failed : failures_of l.reader ≡ failures_of l.initial.reader;
}

abbrev pub decreases-loop-left : goal.decreases-loop-left
decreases-loop-left g l = l.left
