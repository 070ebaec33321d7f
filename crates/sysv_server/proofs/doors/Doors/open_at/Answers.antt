-- One socket made a step.
use Rattle.std.proofs.Common.{None, subst}
use Rattle.std.proofs.lemmas.List.{drop-set-lt}
use Rattle.sysv_server.proofs.AnyOpen.{opened_err, opened_ok}
use Rattle.sysv_server.proofs.Came.{one_at}
use Rattle.sysv_server.proofs.doors.Doors.open_at.Goals as goal

pub returns-clause-came : goal.returns-clause-came
returns-clause-came g c =
    one_at g.L.Listens.steps c.args.self.now.sockets.items c.args.number c.open.new.self c.index_mut.result.now None
    c.requires (subst (λ (l : g.row.L.Denot). g.L.Listens.steps l None c.open.new.self) c.index_mut.ensures.value
    c.open.ensures.step)

pub returns-clause-ok : goal.returns-clause-ok
returns-clause-ok g c =
    opened_ok g.L.Listens.listens c.open.result c.args.self.now.sockets.items c.args.number c.open.new.self c.requires
    c.open.ensures.ok

pub returns-clause-err : goal.returns-clause-err
returns-clause-err g c =
    opened_err g.L.Listens.listens c.open.result c.args.self.now.sockets.items c.args.number c.open.new.self
    c.index_mut.result.now c.index_mut.result.now c.requires c.index_mut.ensures.value c.open.ensures.err

pub returns-clause-rest : goal.returns-clause-rest
returns-clause-rest g c =
    λ from after. drop-set-lt from c.args.self.now.sockets.items c.args.number c.open.new.self after
