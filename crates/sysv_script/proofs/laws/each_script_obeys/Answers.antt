use Rattle.sysv_script.proofs.ObeyingRun as run
use Rattle.sysv_script.proofs.laws.each_script_obeys.Goals as goal

pub returns : goal.returns
returns c = run.each_script_obeys c.every_run_obeys.ensures c.each_script_is_a_run.ensures
