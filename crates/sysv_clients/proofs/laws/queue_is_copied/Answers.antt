use Rattle.sysv_clients.proofs.CopyLemmas.{are_copied}
use Rattle.sysv_clients.proofs.laws.queue_is_copied.Goals as goal

pub returns : goal.returns
returns c = are_copied
