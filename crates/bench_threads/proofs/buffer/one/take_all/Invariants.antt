use Rattle.std.proofs.Common.{◌≡◌}
use Rattle.bench_threads.proofs.buffer.one.take_all.Given as goal

abbrev pub invariant-loop : goal.invariant-loop
invariant-loop g l = l.end.buffer ≡ l.buffer
