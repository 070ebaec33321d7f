-- The blocks so far are in the writer.
use Rattle.std.proofs.Common.{◌≡◌, ◌*◌, take}
use Rattle.std.specs.Io.KnownBytes.{Appends}
use Rattle.sysv_model.specs.declared.limits.TheConstants.{BLOCK_BYTES}
use Rattle.sysv_model.specs.Instrumented.{failures_of, stream_name, stream_of}
use Rattle.sysv_wire.proofs.output.write_text.Given as goal

abbrev pub invariant-loop-k : goal.invariant-loop-k
invariant-loop-k g l = record {
  so_far : Appends (g.W.Write.contents (stream_of l.initial.writer)) (g.W.Write.contents (stream_of l.writer))
      (take (l.k * BLOCK_BYTES) l.text);
  same : stream_name l.writer ≡ stream_name l.initial.writer;
  failed : failures_of l.writer ≡ failures_of l.initial.writer;
}
