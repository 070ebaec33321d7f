-- The lines so far were taken. Some sends may be on their way.
use Rattle.std.proofs.Common.{◌≡◌, ◌-◌, ◌+◌, ◌^◌, ◌<◌, []}
use Rattle.std.specs.Io.KnownBytes.{prepend_known}
use Rattle.sysv_clients.specs.Feed.{feed_name, feed_stream}
use Rattle.sysv_clients.specs.Loaded.{Loads}
use Rattle.sysv_clients.specs.Loading.{window_to_load}
use Rattle.sysv_model.specs.Instrumented.{stream_name, stream_of}
use Rattle.sysv_clients.proofs.loading.Loader.load_all.Given as goal

abbrev pub invariant-loop-self : goal.invariant-loop-self
invariant-loop-self g l = record {
  loads : Loads l.loading (g.R.Read.remaining (stream_of l.fn.reader)) (g.R.Read.remaining (stream_of l.reader))
      (g.W.Write.contents (stream_of l.fn.writer)) (g.W.Write.contents (stream_of l.writer))
      (g.I.Read.remaining (feed_stream l.fn.input))
      (prepend_known l.self.sender.chunk (g.I.Read.remaining (feed_stream l.input))) l.self.place l.self.window;
  many : l.self.window.done + l.self.window.waiting ≡ l.self.place.lines;
  room : l.self.window.waiting < window_to_load l.loading;
  bound : l.self.place.lines < 2 ^ 64;
  none : l.self.none ≡ [];
  same_input : feed_name l.input ≡ feed_name l.fn.input;
  same_reader : stream_name l.reader ≡ stream_name l.fn.reader;
  same_writer : stream_name l.writer ≡ stream_name l.fn.writer;
}

abbrev pub decreases-loop-self : goal.decreases-loop-self
decreases-loop-self g l = (2 ^ 64 - 1) - l.self.place.lines
