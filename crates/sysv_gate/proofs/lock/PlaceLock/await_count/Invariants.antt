use Rattle.sysv_gate.specs.Tables.{me_at}
use Rattle.sysv_gate.specs.Locks.{IsSame}
use Rattle.sysv_gate.specs.Turns.{ReadMore}
use Rattle.sysv_gate.proofs.lock.PlaceLock.await_count.Given as goal

-- The wait is not over yet.
abbrev pub invariant-loop : goal.invariant-loop
invariant-loop g l = record {
  same : IsSame l.self.place l.fn.token l.token;
  more : ReadMore l.count (me_at l.self.place l.fn.token.me) (me_at l.self.place l.token.me);
  goes_on : (goal.iterator-loop g).can_next l.iterator' × (goal.iterator-loop g).is_finite l.iterator';
}
