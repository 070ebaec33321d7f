use Rattle.sysv_service.specs.Seats.{AreOf}
use Rattle.tests_service_threads.proofs.crowd.Sender.send_all.Given as goal

-- The pass is one of the service.
abbrev pub invariant-loop-number : goal.invariant-loop-number
invariant-loop-number g l = AreOf l.service l.pass.seats
