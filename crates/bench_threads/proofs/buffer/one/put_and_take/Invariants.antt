use Rattle.std.proofs.Common.{◌≡◌}
use Rattle.bench_threads.proofs.buffer.one.put_and_take.Given as goal

abbrev pub invariant-loop-number : goal.invariant-loop-number
invariant-loop-number g l = (l.puts.buffer ≡ l.buffer) × (l.takes.buffer ≡ l.buffer)
