use Rattle.std.proofs.Common.{◌≡◌, ◌≤◌}
use Rattle.sysv_eventcount.specs.Counter.{saw}
use Rattle.sysv_eventcount.proofs.eventcount.Word+Advances.await_at_least.Given as goal

-- The seat has seen more, and is otherwise unchanged.
abbrev pub invariant-loop : goal.invariant-loop
invariant-loop g l = record { seat : l.seat ≡ saw l.seat.seen l.fn.seat; later : l.fn.seat.seen ≤ l.seat.seen }
