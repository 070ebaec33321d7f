-- One socket made a step.
use Rattle.std.proofs.Common.{None, subst}
use Rattle.std.proofs.lemmas.List.{drop-set-lt}
use Rattle.sysv_server.proofs.AnyOpen.{any_others, none_before}
use Rattle.sysv_server.proofs.Came.{one_at}
use Rattle.sysv_server.proofs.doors.Doors.close_at.Goals as goal

pub returns-clause-came : goal.returns-clause-came
returns-clause-came g c =
    one_at g.L.Listens.steps c.args.self.now.sockets.items c.args.number c.close.new.self c.index_mut.result.now None
    c.requires (subst (λ (l : g.row.L.Denot). g.L.Listens.steps l None c.close.new.self) c.index_mut.ensures.value
    c.close.ensures.step)

pub returns-clause-open : goal.returns-clause-open
returns-clause-open g c =
    any_others g.L.Listens.listens c.args.self.now.sockets.items c.args.number c.close.new.self c.requires
    c.close.ensures.closed

pub returns-clause-closed : goal.returns-clause-closed
returns-clause-closed g c =
    none_before g.L.Listens.listens c.args.self.now.sockets.items c.args.number c.close.new.self c.requires
    c.close.ensures.closed

pub returns-clause-rest : goal.returns-clause-rest
returns-clause-rest g c =
    λ from after. drop-set-lt from c.args.self.now.sockets.items c.args.number c.close.new.self after
