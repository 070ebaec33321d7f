use Rattle.std.proofs.Common.{subst}
use Rattle.sysv_bank.specs.Passes.{SeenInOrder}
use Rattle.sysv_bank.proofs.Passes.{seen_in_order}
use Rattle.sysv_bank.proofs.laws.each_place_is_in_the_order.Goals as goal

pub returns : goal.returns
returns g c = subst SeenInOrder c.seat.view_is (seen_in_order _ c.seat.inside c.seat.invariant)
