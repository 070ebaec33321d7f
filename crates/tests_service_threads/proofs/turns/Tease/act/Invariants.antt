use Rattle.sysv_service.specs.Seats.{AreOf}
use Rattle.tests_service_threads.proofs.turns.Tease.act.Given as goal

-- The pass is one of the service.
abbrev pub invariant-loop : goal.invariant-loop
invariant-loop g l = AreOf l.service l.pass.seats
