use Rattle.sysv_clients.proofs.FileLemmas.{restores_saved, saves_file}
use Rattle.sysv_clients.proofs.RestoreLemmas.{restores}
use Rattle.sysv_clients.proofs.laws.loading_repeats_what_was_saved.Goals as goal

pub returns-clause-written : goal.returns-clause-written
returns-clause-written c = saves_file

pub returns-clause-loaded : goal.returns-clause-loaded
returns-clause-loaded c = restores

pub returns-clause-repeated : goal.returns-clause-repeated
returns-clause-repeated c = restores_saved
