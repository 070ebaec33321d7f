use Rattle.sysv_service.proofs.ResultIsRight.{each_answers_right}
use Rattle.sysv_steps.specs.Stepping.{no_moment}
use Rattle.sysv_service.proofs.laws.each_run_answers_right.Goals as goal

pub returns-clause-stamped : goal.returns-clause-stamped
returns-clause-stamped g c = each_answers_right c.each_answer_is_right.ensures _

pub returns-clause-unstamped : goal.returns-clause-unstamped
returns-clause-unstamped g c = each_answers_right c.each_answer_is_right.ensures no_moment
