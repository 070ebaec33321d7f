use Rattle.std.proofs.Common.{ap, refl}
use Rattle.sysv_buffer.proofs.SeatAfterTake.{taken_from}
use Rattle.sysv_buffer.proofs.many.ManyBuffer.take.Goals as goal

pub returns-clause-ok : goal.returns-clause-ok
returns-clause-ok g c =
    let is = c.seat.view_is in
    taken_from _ _ _ _ _ _ _ _ _ (ap (λ h. h.seen) is) (ap (λ h. h.puts) is) (ap (λ h. h.takes) is) refl refl refl
    c.await_item.ensures.keeps c.in-Some.ensures.item c.remove-item.ensures.was c.remove-item.ensures.taken
