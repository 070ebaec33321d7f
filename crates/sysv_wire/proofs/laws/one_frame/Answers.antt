use Rattle.sysv_wire.proofs.ArrivedLemmas as arrived
use Rattle.sysv_wire.proofs.laws.one_frame.Goals as goal

pub returns : goal.returns
returns c = λ newest. arrived.one_frame newest
