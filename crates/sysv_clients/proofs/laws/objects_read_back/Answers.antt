use Rattle.sysv_clients.proofs.CopyLemmas.{read_back, states_one}
use Rattle.sysv_clients.proofs.laws.objects_read_back.Goals as goal

pub returns-clause-written : goal.returns-clause-written
returns-clause-written c = read_back

pub returns-clause-one : goal.returns-clause-one
returns-clause-one c = states_one
