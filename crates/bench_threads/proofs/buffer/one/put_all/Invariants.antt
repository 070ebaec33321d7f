use Rattle.std.proofs.Common.{◌≡◌}
use Rattle.bench_threads.proofs.buffer.one.put_all.Given as goal

abbrev pub invariant-loop-number : goal.invariant-loop-number
invariant-loop-number g l = l.end.buffer ≡ l.buffer
