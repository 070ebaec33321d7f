-- A get that still waits has the same wait.
use Rattle.std.proofs.Common.{inl, refl}
use Rattle.sysv_seats.proofs.handler.ServiceHandler.get_on.Goals as goal

pub returns-in_default-clause-looks : goal.returns-in_default-clause-looks
returns-in_default-clause-looks g c = λ text. inl (c.in_default.ensures.below, refl, refl)
