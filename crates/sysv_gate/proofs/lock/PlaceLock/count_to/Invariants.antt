use Rattle.sysv_gate.specs.Tables.{me_at}
use Rattle.sysv_gate.specs.Locks.{IsSame}
use Rattle.sysv_gate.specs.Turns.{HasRead}
use Rattle.sysv_gate.proofs.lock.PlaceLock.count_to.Given as goal

-- The value that was read last.
abbrev pub invariant-loop : goal.invariant-loop
invariant-loop g l = record {
  same : IsSame l.self.place l.fn.token l.token;
  read : HasRead g.O.Object.counted l.self.opening l.count (me_at l.self.place l.fn.token.me) l.value
      (me_at l.self.place l.token.me);
}
