use Rattle.std.proofs.Common.{◌≡◌}
use Rattle.sysv_bank.specs.Banks.{gates_of}
use Rattle.bench_threads.proofs.gate.places.call_often.Given as goal

-- The seat is one of the bank.
abbrev pub invariant-loop : goal.invariant-loop
invariant-loop g l = gates_of l.seat.seats ≡ l.bank
