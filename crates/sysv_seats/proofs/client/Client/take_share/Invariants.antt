-- So far the client is one of the same session, and the handler has the same service and clock.
use Rattle.std.proofs.Common.{◌≡◌}
use Rattle.sysv_seats.specs.Hand.{KeepsReturns}
use Rattle.sysv_seats.specs.HandlesKept.{KeepsHandles}
use Rattle.sysv_seats.specs.Held.{holder_of}
use Rattle.sysv_seats.specs.Said.{KeepsAsSaid}
use Rattle.sysv_seats.specs.Sits.{KeepsWith}
use Rattle.sysv_seats.specs.Untold.{lets_in}
use Rattle.sysv_seats.proofs.client.Client.take_share.Given as goal

abbrev pub invariant-loop : goal.invariant-loop
invariant-loop g l = record {
  keeps : KeepsWith g.T.NonBlocking.incoming g.T.NonBlocking.outgoing (lets_in g.T.NonBlocking.closes) l.fn.self
      (holder_of l.fn.handler) l.self (holder_of l.handler);
  handles : KeepsHandles l.fn.handler.handler l.handler.handler;
  beside : KeepsReturns l.fn.handler.hand l.handler.hand;
  breaks : g.T.NonBlocking.closes.breaks l.self.connection ≡ g.T.NonBlocking.closes.breaks l.fn.self.connection;
  said : KeepsAsSaid g.T.NonBlocking.closes l.fn.self l.self;
}
