use Rattle.sysv_gate.specs.Turns.{SawMore}
use Rattle.sysv_gate.specs.Tables.{me_at}
use Rattle.sysv_gate.specs.Locks.{IsSame}
use Rattle.sysv_gate.proofs.lock.PlaceLock.reach.Given as goal

-- The turn has not begun yet.
abbrev pub invariant-loop : goal.invariant-loop
invariant-loop g l = record {
  same : IsSame l.self.place l.fn.token l.token;
  waits : SawMore (me_at l.self.place l.fn.token.me).0 (me_at l.self.place l.token.me);
  goes_on : (goal.iterator-loop g).can_next l.iterator' × (goal.iterator-loop g).is_finite l.iterator';
}
