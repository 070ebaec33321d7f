use Rattle.std.proofs.Common.{◌≡◌, List, length}
use Rattle.std.specs.Prelude.{Some}
use Rattle.std.specs.List.{FoldsTo}
use Rattle.sysv_workers.specs.Feeding.{counted, HasFed}
use Rattle.sysv_workers.proofs.feed.put_all.Given as goal

-- All items that the source returned so far were put.
abbrev pub invariant-loop : goal.invariant-loop
invariant-loop g l =
    (goal.iterator-loop g).can_next l.iterator'
    × (goal.iterator-loop g).is_finite l.iterator'
    × (l.seat.buffer ≡ l.buffer)
    × (l.seat.takes ≡ l.fn.seat.takes)
    × ((given : List _) × FoldsTo (λ s x s'. g.S.Source.gives s (Some x) s') l.fn.source given l.source
    × HasFed given 0 l.seat × (l.items ≡ counted (length given)))
