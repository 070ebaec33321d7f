use Rattle.sysv_wire.proofs.ArrivedLemmas as arrived
use Rattle.sysv_wire.proofs.laws.frame_is_taken.Goals as goal

pub returns : goal.returns
returns c = λ newest. arrived.frame_taken newest
