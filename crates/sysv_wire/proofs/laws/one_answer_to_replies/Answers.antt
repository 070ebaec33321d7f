use Rattle.sysv_wire.proofs.ReplyAnswer as answer
use Rattle.sysv_wire.proofs.laws.one_answer_to_replies.Goals as goal

pub returns : goal.returns
returns c = λ newest. answer.one_answer newest
