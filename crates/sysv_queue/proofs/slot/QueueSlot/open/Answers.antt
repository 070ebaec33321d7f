use Rattle.sysv_queue.proofs.Stands.{stands_empty}
use Rattle.sysv_queue.proofs.slot.QueueSlot.open.Goals as goal

pub returns : goal.returns
returns c = rw c.in_ok-open.ensures stands_empty
