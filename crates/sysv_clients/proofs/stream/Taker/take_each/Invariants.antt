-- The receives so far, and what was shown of them.
use Rattle.std.proofs.Common.{◌≡◌, [], false}
use Rattle.sysv_clients.specs.Taking.{Takes}
use Rattle.sysv_model.specs.Instrumented.{KeepsStream, stream_name, stream_of}
use Rattle.sysv_clients.proofs.stream.Taker.take_each.Given as goal

abbrev pub invariant-loop-taking : goal.invariant-loop-taking
invariant-loop-taking g l = record {
  takes : Takes l.self.page l.receiving
      (g.R.Read.remaining l.fn.reader) (g.R.Read.remaining l.reader)
      (g.W.Write.contents (stream_of l.fn.writer)) (g.W.Write.contents (stream_of l.writer))
      (g.S.Write.contents (stream_of l.fn.screen)) (g.S.Write.contents (stream_of l.screen)) l.taking;
  text : l.self.text ≡ [];
  screen : KeepsStream l.fn.screen l.screen false;
  same_writer : stream_name l.writer ≡ stream_name l.fn.writer;
}

abbrev pub decreases-loop-taking : goal.decreases-loop-taking
decreases-loop-taking g l = l.taking.owed
