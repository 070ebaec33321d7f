-- A receive that returns a message tells it.
use Rattle.std.proofs.Common.{inl, refl, Ok}
use Rattle.std.proofs.lemmas.Int.{to_z-of_z}
use Rattle.sysv_seats.proofs.handler.ServiceHandler.receive.Goals as goal

pub returns-in-Ok-clause-receives : goal.returns-in-Ok-clause-receives
returns-in-Ok-clause-receives g c =
    let id = c.ranges.id in
    let mtype = c.ranges.mtype in
    let ran = simp to_z-of_z at c.in-Ok.ensures.ran in
    inl (Ok c.in-Ok.delivery, ran.0, ran.1, ran.2, refl)
