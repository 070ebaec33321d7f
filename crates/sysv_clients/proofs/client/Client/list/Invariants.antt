-- The rows so far, and what was collected of them.
use Rattle.std.proofs.Common.{◌≡◌, ◌+◌, ◌≤◌, length}
use Rattle.sysv_clients.specs.declared.command.TheConstants.{ROW_WINDOW}
use Rattle.sysv_clients.specs.Asks.{text_of}
use Rattle.sysv_model.specs.Instrumented.{failures_of, stream_name, stream_of}
use Rattle.sysv_clients.proofs.RowLemmas.{Listing}
use Rattle.sysv_clients.proofs.DialogueLemmas.{page_most}
use Rattle.sysv_clients.proofs.client.Client.list.Given as goal

abbrev pub invariant-loop-slot : goal.invariant-loop-slot
invariant-loop-slot g l = record {
  listing : Listing l.command (g.R.Read.remaining (stream_of l.fn.reader)) (g.R.Read.remaining (stream_of l.reader))
      (g.W.Write.contents (stream_of l.fn.writer)) (g.W.Write.contents (stream_of l.writer)) l.self.page l.slot l.sent
      l.slots;
  text : l.self.text ≡ text_of l.command.task;
  room : length l.self.page ≤ page_most (l.slot + 1);
  ahead : l.slot ≤ l.sent;
  bound : l.sent ≤ l.rows;
  few : l.sent ≤ l.slot + ROW_WINDOW;
  same_reader : stream_name l.reader ≡ stream_name l.fn.reader;
  same_writer : stream_name l.writer ≡ stream_name l.fn.writer;
  reader_failed : failures_of l.reader ≡ failures_of l.fn.reader;
  writer_failed : failures_of l.writer ≡ failures_of l.fn.writer;
}
