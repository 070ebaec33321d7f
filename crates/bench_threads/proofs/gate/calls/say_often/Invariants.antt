use Rattle.std.proofs.Common.{◌≡◌}
use Rattle.bench_threads.proofs.gate.calls.say_often.Given as goal

-- The seat is one of the gate.
abbrev pub invariant-loop-round : goal.invariant-loop-round
invariant-loop-round g l = l.seat.gate ≡ l.gate
