-- A look leaves the other work as it is.
use Rattle.sysv_parking.proofs.Working.{look_heeds}
use Rattle.sysv_parking.proofs.calls.look_unless.Goals as goal

pub returns-clause-heeded : goal.returns-clause-heeded
returns-clause-heeded g c =
    look_heeds _ _ c.args.place _ _ c.look-found.ensures.look c.look-found.ensures.moves c.look-found.ensures.work
