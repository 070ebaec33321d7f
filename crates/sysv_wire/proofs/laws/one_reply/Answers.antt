use Rattle.sysv_wire.proofs.OneReply as reply
use Rattle.sysv_wire.proofs.laws.one_reply.Goals as goal

pub returns : goal.returns
returns c = reply.one_reply
