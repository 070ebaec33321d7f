use Rattle.std.proofs.Common.{◌≡◌}
use Rattle.tests_eventcount.proofs.eventcount.threads.play.Given as goal

abbrev pub invariant-loop-round : goal.invariant-loop-round
invariant-loop-round g l = (l.seats.one.counter ≡ l.hear) × (l.seats.two.counter ≡ l.say)
