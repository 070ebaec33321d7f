use Rattle.sysv_clients.proofs.SavedLemmas.{queue_or_none}
use Rattle.sysv_clients.proofs.saved.read_queue.Goals as goal

pub returns : goal.returns
returns c =
    queue_or_none c.in-Ok-new.reader c.in-Ok.line.now c.args.line.now c.queue_in.result c.in-Ok-new.ensures.ok
    c.in-Ok.ensures.cases.0 c.in-Ok.ensures.cases.1 c.queue_in.ensures
