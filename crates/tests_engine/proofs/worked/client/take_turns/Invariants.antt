use Rattle.std.proofs.Common.{◌≡◌}
use Rattle.tests_engine.proofs.worked.client.take_turns.Given as goal

-- The handler still calls the same service.
abbrev pub invariant-loop : goal.invariant-loop
invariant-loop g l = l.handler.handler.service ≡ l.fn.handler.handler.service
