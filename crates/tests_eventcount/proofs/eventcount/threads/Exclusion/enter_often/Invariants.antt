use Rattle.std.proofs.Common.{◌≡◌}
use Rattle.tests_eventcount.proofs.eventcount.threads.Exclusion.enter_often.Given as goal

abbrev pub invariant-loop : goal.invariant-loop
invariant-loop g l = (l.seats.one.counter ≡ l.self.turns) × (l.seats.two.counter ≡ l.self.served)
