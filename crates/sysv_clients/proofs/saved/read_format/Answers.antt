use Rattle.sysv_clients.proofs.SavedLemmas.{format_or_not}
use Rattle.sysv_clients.proofs.saved.read_format.Goals as goal

pub returns : goal.returns
returns c =
    format_or_not c.in-Ok-new.reader c.in-Ok.line.now c.args.line.now c.format_in.result c.in-Ok-new.ensures.ok
    c.in-Ok.ensures.cases.0 c.in-Ok.ensures.cases.1 c.format_in.ensures
