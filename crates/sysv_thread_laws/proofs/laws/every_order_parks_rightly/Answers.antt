use Rattle.sysv_thread_laws.proofs.ParkedOnThreads.{parked_in_order}
use Rattle.sysv_thread_laws.proofs.laws.every_order_parks_rightly.Goals as goal

pub returns : goal.returns
returns c = parked_in_order c.every_threaded_run_parks_rightly.ensures
