-- The exchanges so far, and what was collected of them.
use Rattle.std.proofs.Common.{◌≡◌, ◌-◌, ◌≤◌, length}
use Rattle.sysv_clients.specs.declared.command.TheConstants.{MAX_REQUESTS}
use Rattle.sysv_clients.specs.Asks.{text_of}
use Rattle.sysv_model.specs.Instrumented.{failures_of, stream_name, stream_of}
use Rattle.sysv_clients.proofs.DialogueLemmas.{Conversing, page_most}
use Rattle.sysv_clients.proofs.client.Client.call.Given as goal

abbrev pub invariant-loop-ask : goal.invariant-loop-ask
invariant-loop-ask g l = record {
  conversing : Conversing l.command (g.R.Read.remaining (stream_of l.initial.reader))
      (g.R.Read.remaining (stream_of l.reader))
      (g.W.Write.contents (stream_of l.initial.writer)) (g.W.Write.contents (stream_of l.writer)) l.self.page l.place
      l.slots l.id;
  text : l.self.text ≡ text_of l.command.task;
  room : length l.self.page ≤ page_most l.place;
  few : l.place ≤ MAX_REQUESTS;
  same_reader : stream_name l.reader ≡ stream_name l.initial.reader;
  same_writer : stream_name l.writer ≡ stream_name l.initial.writer;
  reader_failed : failures_of l.reader ≡ failures_of l.initial.reader;
  writer_failed : failures_of l.writer ≡ failures_of l.initial.writer;
}

abbrev pub decreases-loop-ask : goal.decreases-loop-ask
decreases-loop-ask g l = MAX_REQUESTS - l.place
