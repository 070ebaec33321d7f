use Rattle.sysv_server.proofs.LetIn.{doors_let_in}
use Rattle.sysv_server.proofs.laws.each_connection_is_let_in.Goals as goal

pub returns : goal.returns
returns g c = doors_let_in _
