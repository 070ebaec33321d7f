use Rattle.sysv_buffer.proofs.ManySeatsAgree.{one_list}
use Rattle.sysv_buffer.proofs.laws.one_list_of_many.Goals as goal

pub returns : goal.returns
returns g c = one_list _
