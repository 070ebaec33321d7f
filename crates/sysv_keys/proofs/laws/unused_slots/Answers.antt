use Rattle.sysv_keys.proofs.Unused as unused
use Rattle.sysv_keys.proofs.laws.unused_slots.Goals as goal

pub returns : goal.returns
returns c = unused.unused_slots
