use Rattle.sysv_buffer.proofs.ManySeatsAgree.{no_place_twice}
use Rattle.sysv_buffer.proofs.laws.no_place_twice.Goals as goal

pub returns : goal.returns
returns g c = no_place_twice _
