use Rattle.sysv_service.specs.Seats.{AreOf}
use Rattle.tests_service_threads.proofs.team.run.Given as goal

-- The pass is one of the service.
abbrev pub invariant-loop-call : goal.invariant-loop-call
invariant-loop-call g l = AreOf l.service l.pass.seats
