use Rattle.std.proofs.Common.{◌≡◌, ◌≤◌}
use Rattle.tests_eventcount.proofs.eventcount.threads.see_ten_when_asking.Given as goal

abbrev pub invariant-loop-tries : goal.invariant-loop-tries
invariant-loop-tries g l = (l.seats.one.counter ≡ l.asked) × (l.seats.two.counter ≡ l.count) × (l.seen ≤ l.tries)
