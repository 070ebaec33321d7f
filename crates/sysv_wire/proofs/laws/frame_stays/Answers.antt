use Rattle.sysv_wire.proofs.ArrivedLemmas as arrived
use Rattle.sysv_wire.proofs.laws.frame_stays.Goals as goal

pub returns : goal.returns
returns c = λ newest. arrived.frame_stays newest
