use Rattle.sysv_pool.proofs.Alike.{longer_finds_too_few}
use Rattle.sysv_pool.proofs.laws.shown_of_others.Goals as goal

pub returns : goal.returns
returns c = longer_finds_too_few
