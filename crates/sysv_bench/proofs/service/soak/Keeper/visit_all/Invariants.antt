use Rattle.sysv_service.specs.Seats.{AreOf}
use Rattle.sysv_bench.proofs.service.soak.Keeper.visit_all.Given as goal

-- The pass is one of the service.
abbrev pub invariant-loop-key : goal.invariant-loop-key
invariant-loop-key g l = AreOf l.service l.pass.seats
