use Rattle.std.proofs.Common.{◌≡◌, ◌≤◌, List, length}
use Rattle.sysv_workers.specs.Feeding.{HasFed}
use Rattle.sysv_workers.proofs.feed.put_marks.Given as goal

-- This number of end marks were put.
abbrev pub invariant-loop : goal.invariant-loop
invariant-loop g l =
    (l.seat.buffer ≡ l.buffer)
    × (length l.fn.seat.seen ≤ length l.seat.seen)
    × (l.seat.takes ≡ l.fn.seat.takes)
    × ((given : List _) → HasFed given 0 l.fn.seat → HasFed given l.counter l.seat)
