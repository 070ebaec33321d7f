use Rattle.std.proofs.Common.{◌≤◌, ◌*◌, ◌^◌}
use Rattle.sysv_service.specs.Seats.{AreOf}
use Rattle.sysv_service.specs.Stopped.{StopsSo}
use Rattle.sysv_service.proofs.service.Service.stop_counting.Given as goal

-- The slots before this one were tried.
abbrev pub invariant-loop-slot : goal.invariant-loop-slot
invariant-loop-slot g l = record {
  pass : AreOf l.fn.self l.pass.seats;
  stops : StopsSo l.fn.pass l.slot l.removed l.worn l.messages l.pass;
  few : l.removed ≤ l.slot;
  small : l.messages ≤ l.slot * 2 ^ 32;
}
