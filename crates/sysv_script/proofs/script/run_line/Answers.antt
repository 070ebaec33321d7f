use Rattle.sysv_script.specs.SaidBy.{said_of}
use Rattle.sysv_script.proofs.Ran.{ran}
use Rattle.sysv_script.proofs.script.run_line.Goals as goal

pub returns-in-Some-clause-runs : goal.returns-in-Some-clause-runs
returns-in-Some-clause-runs c =
    ran c.args.line.now (said_of c.in-Some.line) c.run.result c.args.stage.now c.run.new.self c.args.output.now
    c.run.new.output c.in-Some.ensures.says c.run.ensures.runs c.run.ensures.quiet
