-- The queue was found, and the lines so far were sent. Some sends may be on their way.
use Rattle.std.proofs.Common.{◌≡◌, ◌-◌, ◌+◌, ◌^◌, ◌<◌}
use Rattle.std.specs.Io.KnownBytes.{prepend_known}
use Rattle.sysv_clients.specs.Feed.{feed_name, feed_stream}
use Rattle.sysv_clients.specs.Sending.{window_of}
use Rattle.sysv_clients.specs.Window.{Sends}
use Rattle.sysv_model.specs.Instrumented.{stream_name, stream_of}
use Rattle.sysv_clients.proofs.sending.Sender.send_all.Given as goal

abbrev pub invariant-loop-lines : goal.invariant-loop-lines
invariant-loop-lines g l = record {
  sends : Sends l.sending (g.R.Read.remaining (stream_of l.fn.reader)) (g.R.Read.remaining (stream_of l.reader))
      (g.W.Write.contents (stream_of l.fn.writer)) (g.W.Write.contents (stream_of l.writer))
      (g.I.Read.remaining (feed_stream l.fn.input))
      (prepend_known l.self.chunk (g.I.Read.remaining (feed_stream l.input))) l.window;
  lines : l.window.done + l.window.waiting ≡ l.lines;
  room : l.window.waiting < window_of l.sending;
  same_input : feed_name l.input ≡ feed_name l.fn.input;
  same_reader : stream_name l.reader ≡ stream_name l.fn.reader;
  same_writer : stream_name l.writer ≡ stream_name l.fn.writer;
}

abbrev pub decreases-loop-lines : goal.decreases-loop-lines
decreases-loop-lines g l = (2 ^ 64 - 1) - l.lines
