-- The requests for the rows of the slots before this one were written.
use Rattle.std.proofs.Common.{false}
use Rattle.sysv_model.specs.Instrumented.{KeepsStream, stream_of}
use Rattle.sysv_clients.proofs.RowLemmas.{Writing}
use Rattle.sysv_clients.proofs.rows.request_rows.Given as goal

abbrev pub invariant-loop-slot : goal.invariant-loop-slot
invariant-loop-slot g l = record {
  writing : Writing l.from l.slot l.to l.text (g.W.Write.contents (stream_of l.fn.writer))
      (g.W.Write.contents (stream_of l.writer));
  stream : KeepsStream l.fn.writer l.writer false;
}
