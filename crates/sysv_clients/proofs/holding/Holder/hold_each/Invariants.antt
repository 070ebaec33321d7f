-- The messages so far.
use Rattle.std.proofs.Common.{◌≡◌, [], false}
use Rattle.sysv_model.specs.Instrumented.{KeepsStream, stream_name, stream_of}
use Rattle.sysv_clients.proofs.HoldLemmas.{Holds}
use Rattle.sysv_clients.proofs.holding.Holder.hold_each.Given as goal

abbrev pub invariant-loop-owed : goal.invariant-loop-owed
invariant-loop-owed g l = record {
  holds : Holds l.receiving l.ask l.owed
      (g.R.Read.remaining l.fn.reader) (g.R.Read.remaining l.reader)
      (g.W.Write.contents (stream_of l.fn.writer)) (g.W.Write.contents (stream_of l.writer))
      (g.S.Write.contents (stream_of l.fn.screen)) (g.S.Write.contents (stream_of l.screen));
  text : l.self.text ≡ [];
  page : l.self.page ≡ [];
  screen : KeepsStream l.fn.screen l.screen false;
  same_writer : stream_name l.writer ≡ stream_name l.fn.writer;
}

abbrev pub decreases-loop-owed : goal.decreases-loop-owed
decreases-loop-owed g l = l.owed
