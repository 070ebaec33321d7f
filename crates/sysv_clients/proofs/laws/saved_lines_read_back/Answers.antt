use Rattle.sysv_clients.proofs.OneEntryLemmas.{one_entry}
use Rattle.sysv_clients.proofs.QueueLineLemmas.{queue_back}
use Rattle.sysv_clients.proofs.laws.saved_lines_read_back.Goals as goal

pub returns-clause-written : goal.returns-clause-written
returns-clause-written c = queue_back

pub returns-clause-one : goal.returns-clause-one
returns-clause-one c = one_entry
