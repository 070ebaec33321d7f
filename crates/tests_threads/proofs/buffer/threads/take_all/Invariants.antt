use Rattle.std.proofs.Common.{◌≡◌}
use Rattle.tests_threads.proofs.buffer.threads.take_all.Given as goal

-- The end stays with its buffer.
abbrev pub invariant-loop-number : goal.invariant-loop-number
invariant-loop-number g l = l.end.buffer ≡ l.buffer
