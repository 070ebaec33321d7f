use Rattle.std.proofs.Common.{◌≡◌}
use Rattle.sysv_buffer.specs.ManyEnds.{Looks}
use Rattle.sysv_workers.specs.declared.feed.Feed.TheVariants.{Item}
use Rattle.sysv_workers.proofs.feed.put_item.Given as goal

-- The item has not been put yet.
abbrev pub invariant-loop : goal.invariant-loop
invariant-loop g l =
    (goal.iterator-loop g).can_next l.iterator'
    × (goal.iterator-loop g).is_finite l.iterator'
    × (l.seat.buffer ≡ l.buffer)
    × (l.feed ≡ Item l.fn.item)
    × Looks l.fn.seat l.seat
