use Rattle.std.proofs.Common.{◌≡◌}
use Rattle.tests_threads.proofs.buffer.many_threads.take_some.Given as goal

-- The seat stays with its buffer.
abbrev pub invariant-loop : goal.invariant-loop
invariant-loop g l = l.seat.buffer ≡ l.buffer
