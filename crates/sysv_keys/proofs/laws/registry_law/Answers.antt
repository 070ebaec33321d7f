use Rattle.sysv_keys.proofs.Law as law
use Rattle.sysv_keys.proofs.laws.registry_law.Goals as goal

pub returns : goal.returns
returns c = law.registry_law
