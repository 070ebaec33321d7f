use Rattle.sysv_steps.proofs.WorkedPlays.{worked_plays}
use Rattle.sysv_steps.proofs.laws.worked_plays.Goals as goal

pub returns : goal.returns
returns c = worked_plays c.each_answer_is_right.ensures c.each_has_one_effect.ensures c.after_removal.ensures
    c.each_is_tended.ensures
