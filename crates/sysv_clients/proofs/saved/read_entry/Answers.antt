use Rattle.sysv_clients.proofs.EntryLemmas.{nothing_else}
use Rattle.sysv_clients.proofs.saved.read_entry.Goals as goal

pub returns-else-branch : goal.returns-else-branch
returns-else-branch c =
    let message = rw c.in_default.is at c.in_ok-mtype.ensures in
    let queue = rw c.in_default-2.is at c.in_ok-queue.ensures in
    let format = rw c.if-branch.false at c.in_ok-read_format.ensures in
    nothing_else c.args.line.now message queue format
