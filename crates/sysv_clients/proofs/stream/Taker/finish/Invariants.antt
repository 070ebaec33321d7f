-- After a fault, some of the receives on their way have replies.
use Rattle.std.proofs.Common.{◌≡◌, ℕ, List, Option, false}
use Rattle.sysv_clients.specs.declared.stream.Receiving.{Receiving as AReceiving}
use Rattle.sysv_clients.specs.Style.{style_of_receipt}
use Rattle.sysv_clients.specs.Taking.{Stops}
use Rattle.sysv_model.specs.Instrumented.{KeepsStream, stream_of}
use Rattle.sysv_clients.proofs.stream.Taker.finish.Given as goal

abbrev pub invariant-loop-waiting : goal.invariant-loop-waiting
invariant-loop-waiting g l = record {
  stops : (receiving : AReceiving) (left taken more shown : Option (List ℕ))
      → l.style ≡ style_of_receipt receiving.receipt
      → Stops l.initial.self.page receiving l.fn.fault left (g.R.Read.remaining l.initial.reader) taken more shown
      (g.S.Write.contents (stream_of l.initial.screen)) l.taking.ask l.taking.waiting
      → Stops l.self.page receiving l.why left (g.R.Read.remaining l.reader) taken more shown
      (g.S.Write.contents (stream_of l.screen)) l.taking.ask l.waiting;
  screen : KeepsStream l.initial.screen l.screen false;
}

abbrev pub decreases-loop-waiting : goal.decreases-loop-waiting
decreases-loop-waiting g l = l.waiting
