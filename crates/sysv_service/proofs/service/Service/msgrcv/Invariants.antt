use Rattle.sysv_steps.specs.Call.{Msgrcv}
use Rattle.sysv_steps.specs.Begin.{begin as begins}
use Rattle.sysv_steps.specs.Seen.{receive_state}
use Rattle.sysv_service.specs.Seats.{AreOf}
use Rattle.sysv_service.specs.Ran.{Comes}
use Rattle.sysv_steps.specs.Giving.{GivesNothing}
use Rattle.sysv_service.proofs.service.Service.msgrcv.Given as goal

-- The state of the call so far.
abbrev pub invariant-loop : goal.invariant-loop
invariant-loop g l = record {
  pass : AreOf l.fn.self l.pass.seats;
  nothing : GivesNothing (receive_state l.state l.out);
  comes : Comes (g.C.Clock.may l.fn.clock) (begins l.fn.cred (Msgrcv l.fn.id l.fn.size l.fn.mtype l.fn.flags) 0)
      l.fn.pass (receive_state l.state l.out) l.pass;
  goes_on : (goal.iterator-loop g).can_next l.iterator' × (goal.iterator-loop g).is_finite l.iterator';
}
