use Rattle.std.proofs.Common.{◌≡◌}
use Rattle.std.specs.List.{All}
use Rattle.bench_threads.proofs.gate.calls.split_all.Given as goal

-- The seats are those of the gate.
abbrev pub invariant-loop-task : goal.invariant-loop-task
invariant-loop-task l =
    record { seat : l.seat.gate ≡ l.gate; members : All (λ m. m.seat.gate ≡ l.gate) l.members.items }
