use Rattle.std.proofs.Common.{◌≡◌}
use Rattle.tests_threads.proofs.buffer.many_threads.put_some.Given as goal

-- The seat stays with its buffer.
abbrev pub invariant-loop-number : goal.invariant-loop-number
invariant-loop-number g l = l.seat.buffer ≡ l.buffer
