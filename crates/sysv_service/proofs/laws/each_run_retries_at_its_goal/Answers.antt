use Rattle.sysv_service.proofs.ResumeAtGoal.{each_run_retries}
use Rattle.sysv_service.proofs.laws.each_run_retries_at_its_goal.Goals as goal

pub returns : goal.returns
returns g c = each_run_retries _
