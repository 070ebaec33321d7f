use Rattle.sysv_lists.proofs.Prefixes.{prefix_self}
use Rattle.sysv_script.proofs.LineOnScriptState.{acted}
use Rattle.sysv_script.proofs.Kept.{on_err}
use Rattle.sysv_script.proofs.stage.Stage.run.Goals as goal

pub returns-in-Pool-clause-err : goal.returns-in-Pool-clause-err
returns-in-Pool-clause-err c = on_err c.size_pool.result (prefix_self c.args.output.now)

pub returns-in_default : goal.returns-in_default
returns-in_default c = record {
  runs = acted c.args.line c.act.result c.args.self.now c.act.new.self c.args.output.now c.act.new.output
      c.in_default.not-Skipped c.in_default.not-Pool c.act.ensures.runs;
  quiet = c.act.ensures.quiet;
  err = c.act.ensures.err;
}
