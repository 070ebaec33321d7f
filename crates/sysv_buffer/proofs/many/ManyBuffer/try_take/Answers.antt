use Rattle.std.proofs.Common.{ap, refl}
use Rattle.sysv_buffer.proofs.SeatAfterTake.{taken_from}
use Rattle.sysv_buffer.proofs.many.ManyBuffer.try_take.Goals as goal

pub returns-in-Cell-clause-ok : goal.returns-in-Cell-clause-ok
returns-in-Cell-clause-ok g c =
    let is = c.seat.view_is in
    let found = c.in-Cell.ensures.found in
    taken_from _ _ _ _ _ _ _ _ _ (ap (λ h. h.seen) is) (ap (λ h. h.puts) is) (ap (λ h. h.takes) is) refl refl refl
    found.1 found.0 c.remove-item.ensures.was c.remove-item.ensures.taken
