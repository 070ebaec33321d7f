-- Another socket is open, so one was and one is.
use Rattle.std.proofs.Common.{◌∙◌, sym}
use Rattle.sysv_server.proofs.AnyOpen.{one_of_others}
use Rattle.sysv_server.proofs.doors.Doors.give_up.Goals as goal

pub returns-clause-open : goal.returns-clause-open
returns-clause-open g c =
    let other = sym c.has_other.ensures ∙ c.if-not-has_other.false in
    c.close_at.ensures.open ∙ (other ∙ sym (one_of_others g.L.Listens.listens c.args.self.now.sockets.items
    c.args.number c.requires other))
