use Rattle.sysv_buffer.proofs.TakenIsPrefix.{taken_is_a_beginning}
use Rattle.sysv_buffer.proofs.laws.taken_is_a_beginning.Goals as goal

pub returns : goal.returns
returns g c = taken_is_a_beginning _
