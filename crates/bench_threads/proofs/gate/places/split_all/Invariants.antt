use Rattle.std.proofs.Common.{◌≡◌}
use Rattle.std.specs.List.{All}
use Rattle.sysv_bank.specs.Banks.{gates_of}
use Rattle.bench_threads.proofs.gate.places.split_all.Given as goal

-- The seats are those of the bank.
abbrev pub invariant-loop : goal.invariant-loop
invariant-loop l =
    record { seat : gates_of l.seat.seats ≡ l.bank; seats : All (λ s. gates_of s.seats ≡ l.bank) l.seats.items }
