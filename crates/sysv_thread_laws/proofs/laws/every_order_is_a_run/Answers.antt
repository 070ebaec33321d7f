use Rattle.sysv_thread_laws.proofs.InvokedFirst as run
use Rattle.sysv_thread_laws.proofs.laws.every_order_is_a_run.Goals as goal

pub returns : goal.returns
returns c = run.every_order_is_a_run c.every_threaded_run_obeys.ensures c.one_answer.ensures
