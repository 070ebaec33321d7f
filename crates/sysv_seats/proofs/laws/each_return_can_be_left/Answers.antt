use Rattle.sysv_seats.proofs.Returns.{returns_left}
use Rattle.sysv_seats.proofs.laws.each_return_can_be_left.Goals as goal

pub returns : goal.returns
returns c = returns_left
