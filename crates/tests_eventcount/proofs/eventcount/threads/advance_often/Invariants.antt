use Rattle.std.proofs.Common.{◌≡◌}
use Rattle.tests_eventcount.proofs.eventcount.threads.advance_often.Given as goal

abbrev pub invariant-loop : goal.invariant-loop
invariant-loop g l = l.seat.counter ≡ l.count
