use Rattle.sysv_gate.proofs.OneLock.{parted_rests, split_rests, split_new}
use Rattle.sysv_gate.proofs.gate.Gate.split.Goals as goal

pub invariant_of-seat : goal.invariant_of-seat
invariant_of-seat g c =
    parted_rests _ c.seat.inside c.split_pass-token.new.token c.seat.invariant c.split_pass-token.ensures.same.1

pub invariant_of-result : goal.invariant_of-result
invariant_of-result g c =
    split_rests _ c.self.inside _ _ _ c.self.invariant c.seat.invariant c.self.view_is c.seat.view_is c.requires
    c.split_pass-token.result c.split_pass-token.ensures.new.1 c.split_pass-token.ensures.new.0 c.of.result c.of.ensures

pub returns-clause-new : goal.returns-clause-new
returns-clause-new g c =
    split_new _ c.self.inside _ _ _ c.self.invariant c.seat.invariant c.self.view_is c.seat.view_is c.requires
    c.split_pass-token.result c.split_pass-token.ensures.new.1 c.split_pass-token.ensures.new.0 c.of.result c.of.ensures
