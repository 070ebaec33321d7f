use Rattle.sysv_thread_laws.proofs.WorkedTeam as worked
use Rattle.sysv_thread_laws.proofs.laws.worked_team.Goals as goal

pub returns : goal.returns
returns c = worked.worked_team c.worked_order.ensures.legal c.every_joined_service_is_a_run.ensures.run
