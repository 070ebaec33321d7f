use Rattle.std.proofs.Common.{◌≡◌}
use Rattle.sysv_buffer.specs.Turns.{IsSame}
use Rattle.sysv_buffer.proofs.buffer.OneBuffer.await_item.Given as goal

-- No item was found yet.
abbrev pub invariant-loop : goal.invariant-loop
invariant-loop g l = record {
  same : IsSame l.fn.token l.token;
  still : l.token.me ≡ l.fn.token.me;
  goes_on : (goal.iterator-loop g).can_next l.iterator' × (goal.iterator-loop g).is_finite l.iterator';
}
