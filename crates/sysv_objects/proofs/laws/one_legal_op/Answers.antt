use Rattle.sysv_objects.proofs.Legality.{some_op, one_op}
use Rattle.sysv_objects.proofs.laws.one_legal_op.Goals as goal

pub returns : goal.returns
returns c = record {
  some = some_op c.one_legal_reply.ensures.some c.one_legal_reply-2.ensures.some c.one_legal_reply-3.ensures.some;
  one = one_op c.one_legal_reply.ensures.one c.one_legal_reply-2.ensures.one c.one_legal_reply-3.ensures.one;
}
