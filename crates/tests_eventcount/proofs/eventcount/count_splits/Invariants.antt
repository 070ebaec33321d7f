use Rattle.std.proofs.Common.{◌≡◌}
use Rattle.tests_eventcount.proofs.eventcount.count_splits.Given as goal

abbrev pub invariant-loop-done : goal.invariant-loop-done
invariant-loop-done l = l.newest.counter ≡ l.count
