use Rattle.sysv_steps.specs.Seen.{receive_state}
use Rattle.sysv_service.specs.Seats.{AreOf}
use Rattle.sysv_service.specs.Delivered.{ComesGiving}
use Rattle.sysv_steps.specs.Bodies.{IsSized}
use Rattle.sysv_service.proofs.service.Service.receive_on.Given as goal

-- The state of the call so far.
abbrev pub invariant-loop : goal.invariant-loop
invariant-loop g l = record {
  pass : AreOf l.fn.self l.pass.seats;
  sized : IsSized l.state l.out;
  comes : ComesGiving (g.C.Clock.may l.fn.clock) (receive_state l.fn.begun l.fn.out) l.fn.pass l.state l.out l.pass;
  goes_on : (goal.iterator-loop g).can_next l.iterator' × (goal.iterator-loop g).is_finite l.iterator';
}
