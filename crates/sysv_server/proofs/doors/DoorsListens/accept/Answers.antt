-- The sockets that were tried before accepted nothing, and this one accepted a connection or failed.
use Rattle.std.proofs.Common.{◌∙◌, List, None, Some, ap, subst, sym}
use Rattle.std.specs.List.{list_any}
use Rattle.sysv_server.specs.Doors.{OneCame}
use Rattle.sysv_server.proofs.Came.{one_after}
use Rattle.sysv_server.proofs.doors.DoorsListens.accept.Goals as goal

pub returns-in-Ok-clause-step : goal.returns-in-Ok-clause-step
returns-in-Ok-clause-step g c =
    let steps = g.L.Listens.steps in
    let before = subst (λ (ls : List g.row.L.Denot). OneCame steps c.args.self.now.sockets.items None ls)
    (sym c.turn-number.ensures.items) c.loop.invariant.0 in
    one_after steps c.args.self.now.sockets.items c.turn-number.new.self.sockets.items
    c.accept_at.new.self.sockets.items (Some c.in-Ok.stream) before c.in-Ok.ensures.came

pub loop-preserved : goal.loop-preserved
loop-preserved g c =
    let steps = g.L.Listens.steps in
    let before = subst (λ (ls : List g.row.L.Denot). OneCame steps c.args.self.now.sockets.items None ls)
    (sym c.turn-number.ensures.items) c.loop.invariant.0 in (
      one_after steps c.args.self.now.sockets.items c.turn-number.new.self.sockets.items
          c.accept_at.new.self.sockets.items None before c.in-Err.ensures.came,
      c.in-Err.ensures.length ∙ (c.turn-number.ensures.length ∙ c.loop.invariant.1),
      c.in-Err.ensures.open ∙ (ap (list_any g.L.Listens.listens) c.turn-number.ensures.items ∙ c.loop.invariant.2),
      c.in-Err.ensures.failed,
    )
