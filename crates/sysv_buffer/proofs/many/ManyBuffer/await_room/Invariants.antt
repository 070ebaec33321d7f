use Rattle.std.proofs.Common.{[]}
use Rattle.sysv_buffer.specs.ManyTurns.{IsSame, Waits, Keeps}
use Rattle.sysv_buffer.proofs.many.ManyBuffer.await_room.Given as goal

-- No ticket was drawn yet.
abbrev pub invariant-loop : goal.invariant-loop
invariant-loop g l = record {
  same : IsSame l.fn.token l.token;
  waits : Waits [] [] l.token.me;
  keeps : Keeps l.fn.token.me.0 l.token.me.0;
  goes_on : (goal.iterator-loop g).can_next l.iterator' × (goal.iterator-loop g).is_finite l.iterator';
}
