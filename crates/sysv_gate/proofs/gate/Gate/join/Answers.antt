use Rattle.sysv_gate.proofs.OneLock.{joined_rests, joins}
use Rattle.sysv_gate.proofs.gate.Gate.join.Goals as goal

pub invariant_of-seat : goal.invariant_of-seat
invariant_of-seat g c = joined_rests _ c.seat.inside _ _ c.join_pass.new.token _ c.seat.invariant c.seat.view_is
    c.into_token.ensures c.join_pass.ensures.same c.join_pass.ensures.joined

pub returns-clause-joined : goal.returns-clause-joined
returns-clause-joined g c = joins _ c.seat.inside _ _ c.join_pass.new.token _ c.seat.invariant c.seat.view_is
    c.into_token.ensures c.join_pass.ensures.same c.join_pass.ensures.joined
