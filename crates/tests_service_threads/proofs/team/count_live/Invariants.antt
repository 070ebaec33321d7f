use Rattle.sysv_service.specs.Seats.{AreOf}
use Rattle.tests_service_threads.proofs.team.count_live.Given as goal

-- The pass is one of the service.
abbrev pub invariant-loop-slot : goal.invariant-loop-slot
invariant-loop-slot g l = AreOf l.service l.pass.seats
