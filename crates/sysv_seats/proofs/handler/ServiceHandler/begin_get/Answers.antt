-- The get has made its steps.
use Rattle.std.proofs.lemmas.Int.{to_z-of_z}
use Rattle.sysv_seats.specs.InPieces.{get_begins}
use Rattle.sysv_seats.proofs.handler.ServiceHandler.begin_get.Goals as goal

pub returns-clause-begun : goal.returns-clause-begun
returns-clause-begun g c = λ text.
    let key = c.ranges.key in
    let ran = simp to_z-of_z at c.msgget_begin-came.ensures.ran in
    rw c.get_came.ensures
    (get_begins _ c.args.version c.args.cred c.args.key c.args.flags text c.args.self.now.pass
    c.msgget_begin-came.result c.msgget_begin-came.new.pass ran)
