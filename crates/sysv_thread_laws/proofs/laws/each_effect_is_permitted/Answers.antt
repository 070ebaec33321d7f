use Rattle.sysv_thread_laws.proofs.Permissions.{each_run, each_threaded_run, each_order}
use Rattle.sysv_thread_laws.proofs.laws.each_effect_is_permitted.Goals as goal

pub returns-clause-runs : goal.returns-clause-runs
returns-clause-runs c = each_run c.every_run_obeys.ensures

pub returns-clause-threads : goal.returns-clause-threads
returns-clause-threads c = each_threaded_run c.every_threaded_run_obeys.ensures

pub returns-clause-orders : goal.returns-clause-orders
returns-clause-orders c = each_order c.each_op_is_asked_for.ensures
