use Rattle.sysv_clients.proofs.RefillLemmas.{refills}
use Rattle.sysv_clients.proofs.laws.loaded_queues_are_the_saved_ones.Goals as goal

pub returns : goal.returns
returns c = refills
