use Rattle.sysv_service.proofs.RetryAtGoal.{each_retry}
use Rattle.sysv_service.proofs.laws.each_retry_is_at_its_goal.Goals as goal

pub returns : goal.returns
returns g c = each_retry _
