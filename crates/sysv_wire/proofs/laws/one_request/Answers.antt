use Rattle.sysv_wire.proofs.OneRequest as request
use Rattle.sysv_wire.proofs.laws.one_request.Goals as goal

pub returns : goal.returns
returns c = request.one_request
