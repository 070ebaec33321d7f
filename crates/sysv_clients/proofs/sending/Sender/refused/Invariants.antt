-- A send was refused, and some replies after it were read.
use Rattle.std.proofs.Common.{◌≡◌, ◌<◌, ◌+◌, ℕ, List, Option, length}
use Rattle.sysv_clients.specs.declared.sending.Heard.TheVariants.{Refused}
use Rattle.sysv_clients.specs.Sending.{Sent}
use Rattle.sysv_clients.specs.Window.{AreSnds, HearsSend}
use Rattle.sysv_model.specs.Instrumented.{stream_name, stream_of}
use Rattle.sysv_clients.proofs.RefusalLemmas.{Refusing}
use Rattle.sysv_clients.proofs.sending.Sender.refused.Given as goal

abbrev pub invariant-loop-cut : goal.invariant-loop-cut
invariant-loop-cut g l = record {
  refusing : (waiting : List Sent) (left : Option (List ℕ)) → AreSnds waiting → l.window.waiting ≡ length waiting
      → HearsSend (Refused l.fn.error) left (g.R.Read.remaining (stream_of l.initial.reader))
      → Refusing l.fn.error waiting left (g.R.Read.remaining (stream_of l.reader)) l.cut;
  before : l.cut.before ≡ l.window.done;
  few : l.cut.after + l.cut.unknown < l.window.waiting;
  chunk : l.self.chunk ≡ l.initial.self.chunk;
  same_reader : stream_name l.reader ≡ stream_name l.initial.reader;
}

abbrev pub decreases-loop-cut : goal.decreases-loop-cut
decreases-loop-cut g l = l.cut.unknown
