-- The send has read the released count and made its steps.
use Rattle.std.proofs.lemmas.Int.{to_z-of_z}
use Rattle.sysv_seats.specs.InPieces.{send_begins}
use Rattle.sysv_seats.proofs.handler.ServiceHandler.begin_send.Goals as goal

pub returns-clause-begun : goal.returns-clause-begun
returns-clause-begun g c =
    let id = c.ranges.id in
    let mtype = c.ranges.mtype in
    let ran = simp to_z-of_z at c.msgsnd_begin-came.ensures.ran in
    rw c.send_came.ensures
    (send_begins _ c.args.version c.args.cred c.args.id c.args.mtype c.args.flags c.args.text.now ran.0
    c.args.self.now.pass ran.1 c.msgsnd_begin-came.result c.msgsnd_begin-came.new.pass (ran.2, ran.3) ran.4)
