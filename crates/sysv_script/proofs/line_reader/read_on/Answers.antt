use Rattle.sysv_model.specs.Instrumented.{stream_of}
use Rattle.sysv_script.proofs.Prefixed.{AppendsPrefix-all, OnErr-from}
use Rattle.sysv_script.proofs.line_reader.read_on.Goals as goal

pub returns-in-Ok-clause-err : goal.returns-in-Ok-clause-err
returns-in-Ok-clause-err g c =
    OnErr-from c.read_from.result
    (AppendsPrefix-all (g.W.Write.contents (stream_of c.args.writer.now))
    (g.W.Write.contents (stream_of c.write_to.new.writer)) c.args.output.now c.in-Ok.ensures.ok)
