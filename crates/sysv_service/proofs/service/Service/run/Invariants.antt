use Rattle.sysv_steps.specs.Pending.{pending_kind, CanGoOn}
use Rattle.sysv_steps.specs.declared.progress.Progress.TheVariants.{On}
use Rattle.sysv_service.specs.Seats.{AreOf}
use Rattle.sysv_service.specs.Pending.{Advances}
use Rattle.sysv_service.proofs.service.Service.run.Given as goal

-- How far the call has come.
abbrev pub invariant-loop : goal.invariant-loop
invariant-loop g l =
    let bytes = g.B.CallBody.bytes in
    record {
      pass : AreOf l.fn.self l.pass.seats;
      serves : g.B.CallBody.serves (pending_kind l.next);
      can : CanGoOn l.next (bytes l.body);
      comes : Advances (g.C.Clock.may l.fn.clock) l.fn.begun (bytes l.fn.body) l.fn.pass (On l.next) (bytes l.body)
          l.pass;
      goes_on : (goal.iterator-loop g).can_next l.iterator' × (goal.iterator-loop g).is_finite l.iterator';
    }
