-- After one more request the client is still one of the same session.
use Rattle.std.proofs.Common.{◌∙◌, ap, subst, sym}
use Rattle.sysv_seats.specs.Held.{holder_of}
use Rattle.sysv_seats.specs.Said.{IsAsSaid}
use Rattle.sysv_seats.specs.Sits.{Sitting}
use Rattle.sysv_seats.proofs.ClientLemmas.{keeps_on, keeps_with_from}
use Rattle.sysv_seats.specs.Untold.{lets_in}
use Rattle.sysv_seats.proofs.client.Client.take_share.Goals as goal

pub loop-preserved : goal.loop-preserved
loop-preserved g c =
    let t = g.T.NonBlocking in
    record {
      keeps = keeps_on t.incoming t.outgoing (lets_in t.closes) c.args.self.now (holder_of c.args.handler.now)
          c.loop.self
          (holder_of c.loop.handler) c.take_up.new.self (holder_of c.take_up.new.handler) c.loop.invariant.keeps
          (keeps_with_from t.incoming t.outgoing (lets_in t.closes) c.loop.self _ (holder_of c.loop.handler)
          c.take_up.new.self
          (holder_of c.take_up.new.handler) c.self.view_is c.take_up.ensures.keeps);
      handles = (
        c.take_up.ensures.handles.0 ∙ c.loop.invariant.handles.0,
        c.take_up.ensures.handles.1 ∙ c.loop.invariant.handles.1,
      );
      beside = (
        c.take_up.ensures.beside.0 ∙ c.loop.invariant.beside.0,
        c.take_up.ensures.beside.1 ∙ c.loop.invariant.beside.1,
      );
      breaks = c.take_up.ensures.breaks
          ∙ (ap (λ (client : Sitting g.row.T.Denot). t.closes.breaks client.connection) c.self.view_is
          ∙ c.loop.invariant.breaks);
      said = λ has. c.take_up.ensures.said (subst (IsAsSaid t.closes) (sym c.self.view_is) (c.loop.invariant.said has));
    }
