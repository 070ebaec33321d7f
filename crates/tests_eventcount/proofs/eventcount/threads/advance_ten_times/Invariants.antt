use Rattle.std.proofs.Common.{◌≡◌}
use Rattle.tests_eventcount.proofs.eventcount.threads.advance_ten_times.Given as goal

abbrev pub invariant-loop : goal.invariant-loop
invariant-loop l = l.seat.counter ≡ l.count
