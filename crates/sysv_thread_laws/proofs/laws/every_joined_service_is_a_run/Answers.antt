use Rattle.sysv_thread_laws.proofs.PassOpsAreCalls as home
use Rattle.sysv_thread_laws.proofs.laws.every_joined_service_is_a_run.Goals as goal

pub returns-clause-whole : goal.returns-clause-whole
returns-clause-whole c = home.last_is_whole

pub returns-clause-run : goal.returns-clause-run
returns-clause-run c = home.every_service_is_a_run c.every_order_is_a_run.ensures c.orders_at_rest.ensures
