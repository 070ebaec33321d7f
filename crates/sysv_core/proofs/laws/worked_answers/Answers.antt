use Rattle.sysv_core.proofs.WorkedAnswers as answers
use Rattle.sysv_core.proofs.laws.worked_answers.Goals as goal

pub returns : goal.returns
returns c = answers.worked_answers c.each_op_is_asked_for.ensures c.each_answer_is_right.ensures
