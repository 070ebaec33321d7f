use Rattle.sysv_queue.proofs.OneLegalReply.{some_reply_is_legal, no_two_replies_are_legal}
use Rattle.sysv_queue.proofs.laws.one_legal_reply.Goals as goal

pub returns : goal.returns
returns c = record {
  some = some_reply_is_legal c.granted_or_not.ensures.may c.named_or_none.ensures;
  one = no_two_replies_are_legal c.one_named.ensures;
}
