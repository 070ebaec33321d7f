use Rattle.std.proofs.Common.{◌≡◌, ◌+◌, length}
use Rattle.sysv_session.proofs.outbox.spend_lost.Given as goal

-- Each delivery is in the outbox or was counted as lost.
abbrev pub invariant-loop-delivery : goal.invariant-loop-delivery
invariant-loop-delivery l = record {
  lost : l.tally.lost + length l.marks.items ≡ l.initial.tally.lost + length l.initial.marks.items;
  written : l.tally.written ≡ l.initial.tally.written;
}

abbrev pub decreases-loop-delivery : goal.decreases-loop-delivery
decreases-loop-delivery l = length l.marks.items
