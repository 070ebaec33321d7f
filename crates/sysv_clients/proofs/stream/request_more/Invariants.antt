-- This number of the requests were written.
use Rattle.std.proofs.Common.{◌≡◌, ◌-◌, ◌≤◌}
use Rattle.std.specs.Io.KnownBytes.{Appends}
use Rattle.sysv_clients.specs.Stream.{repeated_encoding}
use Rattle.sysv_model.specs.Instrumented.{stream_name, stream_of}
use Rattle.sysv_clients.proofs.stream.request_more.Given as goal

abbrev pub invariant-loop-written : goal.invariant-loop-written
invariant-loop-written g l = record {
  wrote : Appends (g.W.Write.contents (stream_of l.fn.writer)) (g.W.Write.contents (stream_of l.writer))
      (repeated_encoding l.ask l.written);
  few : l.written ≤ l.count;
  same_writer : stream_name l.writer ≡ stream_name l.fn.writer;
}

abbrev pub decreases-loop-written : goal.decreases-loop-written
decreases-loop-written g l = l.count - l.written
