use Rattle.sysv_service.specs.Seats.{AreOf}
use Rattle.tests_service.proofs.one_pass.use_up.Given as goal

-- The pass is one of the service.
abbrev pub invariant-loop-id : goal.invariant-loop-id
invariant-loop-id g l = AreOf l.service l.pass.seats
