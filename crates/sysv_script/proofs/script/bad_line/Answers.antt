use Rattle.sysv_script.proofs.Prefixed.{prefix_none}
use Rattle.sysv_script.proofs.script.bad_line.Goals as goal

pub returns-in-Err : goal.returns-in-Err
returns-in-Err c = prefix_none c.tell.new.self c.args.output.now c.in-Err.ensures.err
