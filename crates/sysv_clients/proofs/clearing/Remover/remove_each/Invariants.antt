-- The calls so far, and the refusals among them.
use Rattle.std.proofs.Common.{◌≡◌, ◌+◌, ◌-◌, ◌*◌, [], is_some, cond}
use Rattle.sysv_clients.specs.declared.command.TheConstants.{MAX_ROWS}
use Rattle.sysv_model.specs.Instrumented.{stream_name, stream_of}
use Rattle.sysv_clients.proofs.ClearLemmas.{Clears}
use Rattle.sysv_clients.proofs.clearing.Remover.remove_each.Given as goal

abbrev pub invariant-loop-ask : goal.invariant-loop-ask
invariant-loop-ask g l = record {
  clears : Clears l.fn.cred (g.R.Read.remaining (stream_of l.fn.reader)) (g.R.Read.remaining (stream_of l.reader))
      (g.W.Write.contents (stream_of l.fn.writer)) (g.W.Write.contents (stream_of l.writer)) l.fn.refusals.items
      l.refusals.items l.clearing;
  text : l.self.text ≡ [];
  same_reader : stream_name l.reader ≡ stream_name l.fn.reader;
  same_writer : stream_name l.writer ≡ stream_name l.fn.writer;
}

abbrev pub decreases-loop-ask : goal.decreases-loop-ask
decreases-loop-ask g l = 2 * (MAX_ROWS - l.clearing.slot) + cond (is_some l.clearing.found) 1 0
