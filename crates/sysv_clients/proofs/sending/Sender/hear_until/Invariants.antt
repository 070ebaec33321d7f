-- The sends so far are those before, with some more replies.
use Rattle.std.proofs.Common.{◌≡◌, ◌+◌, List, length}
use Rattle.sysv_clients.specs.Sending.{Sent}
use Rattle.sysv_clients.specs.Window.{AreSnds, HearsDone}
use Rattle.sysv_model.specs.Instrumented.{stream_name, stream_of}
use Rattle.sysv_clients.proofs.sending.Sender.hear_until.Given as goal

abbrev pub invariant-loop-window : goal.invariant-loop-window
invariant-loop-window g l = record {
  hears : (waiting : List Sent) → AreSnds waiting → l.initial.window.waiting ≡ length waiting
      → HearsDone waiting (g.R.Read.remaining (stream_of l.initial.reader))
      (g.R.Read.remaining (stream_of l.reader)) l.initial.window l.window;
  len : l.window.done + l.window.waiting ≡ l.initial.window.done + l.initial.window.waiting;
  chunk : l.self.chunk ≡ l.initial.self.chunk;
  same_reader : stream_name l.reader ≡ stream_name l.initial.reader;
}

abbrev pub decreases-loop-window : goal.decreases-loop-window
decreases-loop-window g l = l.window.waiting
