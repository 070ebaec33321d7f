use Rattle.sysv_thread_laws.proofs.RunIsExecution as run
use Rattle.sysv_thread_laws.proofs.laws.each_run_is_an_execution.Goals as goal

pub returns : goal.returns
returns c = run.each_run_is_an_execution
