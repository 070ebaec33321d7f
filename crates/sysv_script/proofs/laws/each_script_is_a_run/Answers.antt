use Rattle.sysv_script.proofs.ScriptRun as run
use Rattle.sysv_script.proofs.laws.each_script_is_a_run.Goals as goal

pub returns : goal.returns
returns c = run.each_script_is_a_run
