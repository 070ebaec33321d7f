use Rattle.sysv_pool.proofs.OneLegalReply.{some_reply_is_legal, no_two_replies_are_legal}
use Rattle.sysv_pool.proofs.laws.one_legal_reply.Goals as goal

pub returns : goal.returns
returns c = record { some = some_reply_is_legal; one = no_two_replies_are_legal }
