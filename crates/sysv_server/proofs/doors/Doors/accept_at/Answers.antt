-- One socket made a step, and was closed after it or not.
use Rattle.std.proofs.Common.{◌∙◌, None, Some, ap, subst}
use Rattle.sysv_server.proofs.AnyOpen.{any_still}
use Rattle.sysv_server.proofs.Came.{one_after, one_at}
use Rattle.sysv_server.proofs.doors.Doors.accept_at.Goals as goal

pub returns-in-Ok-clause-came : goal.returns-in-Ok-clause-came
returns-in-Ok-clause-came g c =
    one_at g.L.Listens.steps c.args.self.now.sockets.items c.args.number c.accept.new.self c.index_mut.result.now
    (Some c.in-Ok.stream) c.requires (subst (λ (l : g.row.L.Denot). g.L.Listens.steps l (Some c.in-Ok.stream)
    c.accept.new.self) c.index_mut.ensures.value c.in-Ok.ensures.step)

pub returns-in-Ok-clause-open : goal.returns-in-Ok-clause-open
returns-in-Ok-clause-open g c =
    any_still g.L.Listens.listens c.args.self.now.sockets.items c.args.number c.accept.new.self c.index_mut.result.now
    c.requires (c.in-Ok.ensures.same ∙ ap g.L.Listens.listens c.index_mut.ensures.value)

pub returns-in-Err-clause-came : goal.returns-in-Err-clause-came
returns-in-Err-clause-came g c =
    one_after g.L.Listens.steps c.args.self.now.sockets.items _ c.give_up.new.self.sockets.items None
    (one_at g.L.Listens.steps c.args.self.now.sockets.items c.args.number c.accept.new.self c.index_mut.result.now None
    c.requires (subst (λ (l : g.row.L.Denot). g.L.Listens.steps l None c.accept.new.self) c.index_mut.ensures.value
    c.in-Err.ensures.step)) c.give_up.ensures.came

pub returns-in-Err-clause-open : goal.returns-in-Err-clause-open
returns-in-Err-clause-open g c =
    c.give_up.ensures.open
    ∙ any_still g.L.Listens.listens c.args.self.now.sockets.items c.args.number c.accept.new.self
    c.index_mut.result.now c.requires (c.in-Err.ensures.same ∙ ap g.L.Listens.listens c.index_mut.ensures.value)
