use Rattle.std.proofs.Common.{◌≡◌, ◌≤◌, vec_len, vec_capacity}
use Rattle.tests_threads.proofs.workers.tickets.Given as goal

-- This number of tickets was made.
abbrev pub invariant-loop-number : goal.invariant-loop-number
invariant-loop-number g l = (vec_len l.tickets ≡ l.number) × (17 ≤ vec_capacity l.tickets)
