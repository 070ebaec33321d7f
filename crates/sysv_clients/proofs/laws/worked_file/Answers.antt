use Rattle.sysv_clients.proofs.WorkedFile.{worked}
use Rattle.sysv_clients.proofs.laws.worked_file.Goals as goal

pub returns : goal.returns
returns c = worked
