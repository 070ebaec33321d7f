use Rattle.sysv_buffer.specs.Turns.{IsSame, HasPut}
use Rattle.sysv_buffer.proofs.buffer.OneBuffer.await_room.Given as goal

-- No empty cell was found yet.
abbrev pub invariant-loop : goal.invariant-loop
invariant-loop g l = record {
  same : IsSame l.fn.token l.token;
  still : HasPut l.fn.token.me.0.put l.token.me;
  goes_on : (goal.iterator-loop g).can_next l.iterator' × (goal.iterator-loop g).is_finite l.iterator';
}
