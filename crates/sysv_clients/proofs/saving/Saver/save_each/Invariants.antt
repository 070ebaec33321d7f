-- The calls so far, and their lines.
use Rattle.std.proofs.Common.{◌≡◌, [], false, true}
use Rattle.sysv_clients.specs.Journal.{KeepsJournal, journal_stream}
use Rattle.sysv_model.specs.Instrumented.{stream_name, stream_of}
use Rattle.sysv_clients.proofs.SaveLemmas.{Saves, to_do}
use Rattle.sysv_clients.proofs.saving.Saver.save_each.Given as goal

abbrev pub invariant-loop-ask : goal.invariant-loop-ask
invariant-loop-ask g l = record {
  saves : Saves l.fn.saving (g.R.Read.remaining l.fn.reader) (g.R.Read.remaining l.reader)
      (g.W.Write.contents (stream_of l.fn.writer)) (g.W.Write.contents (stream_of l.writer))
      (g.S.Write.contents (journal_stream l.fn.screen)) (g.S.Write.contents (journal_stream l.screen))
      l.fn.refusals.items l.refusals.items l.stage;
  synced : l.fn.saving.syncs ≡ true
      → g.S.Durable.synced (journal_stream l.screen) ≡ g.S.Write.contents (journal_stream l.screen);
  text : l.self.text ≡ [];
  page : l.self.page ≡ [];
  screen : KeepsJournal l.fn.screen l.screen false;
  same_writer : stream_name l.writer ≡ stream_name l.fn.writer;
}

abbrev pub decreases-loop-ask : goal.decreases-loop-ask
decreases-loop-ask g l = to_do l.stage
