use Rattle.std.proofs.Common.{◌≡◌}
use Rattle.sysv_eventcount.specs.Counter.{saw, Learns}
use Rattle.sysv_eventcount.proofs.eventcount.Word+Advances.await_turns.Given as goal

-- The seat has seen the value that was read last, and has learned what that value shows.
abbrev pub invariant-loop-turn : goal.invariant-loop-turn
invariant-loop-turn l = record { seen : l.seat ≡ saw l.value l.fn.seat; learned : Learns l.fn.seat l.value }
