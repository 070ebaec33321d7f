use Rattle.std.proofs.Common.{◌≡◌}
use Rattle.bench_threads.proofs.gate.calls.watch.Given as goal

-- The seat is one of the gate.
abbrev pub invariant-loop : goal.invariant-loop
invariant-loop g l = l.seat.gate ≡ l.gate
