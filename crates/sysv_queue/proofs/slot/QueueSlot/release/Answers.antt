use Rattle.std.proofs.Common.{sym, subst}
use Rattle.sysv_queue.specs.Numbered.{AreNumberedBelow}
use Rattle.sysv_queue.proofs.NumbersStayBelow.{numbered_left}
use Rattle.sysv_queue.proofs.slot.QueueSlot.release.Goals as goal

pub invariant_of-self : goal.invariant_of-self
invariant_of-self g c =
    subst (AreNumberedBelow c.self.inside.arrived) (sym c.in_err-message.ensures.unchanged) c.self.invariant

pub invariant_of-self-2 : goal.invariant_of-self-2
invariant_of-self-2 g c =
    let taken = c.in_ok-message.ensures.taken in
    numbered_left c.self.inside.arrived c.self.inside.messages c.take.new.self taken.position taken.left
    c.self.invariant
