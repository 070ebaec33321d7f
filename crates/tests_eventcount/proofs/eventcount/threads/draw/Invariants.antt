use Rattle.std.proofs.Common.{◌≡◌, ◌++◌}
use Rattle.tests_eventcount.proofs.eventcount.threads.draw.Given as goal

-- The seat has drawn the tickets in the list.
abbrev pub invariant-loop : goal.invariant-loop
invariant-loop l = record {
  counter : l.seat.counter ≡ l.turns;
  own : l.seat.own ≡ l.fn.seat.own ++ l.drawn.items;
  allowance : l.seat.allowance ≡ l.fn.seat.allowance;
}
