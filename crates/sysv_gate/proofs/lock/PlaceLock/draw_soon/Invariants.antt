use Rattle.std.proofs.Common.{◌≡◌}
use Rattle.sysv_gate.specs.Tables.{me_at}
use Rattle.sysv_gate.specs.Locks.{IsSame}
use Rattle.sysv_gate.proofs.lock.PlaceLock.draw_soon.Given as goal

-- No ticket was drawn yet.
abbrev pub invariant-loop : goal.invariant-loop
invariant-loop g l = record {
  same : IsSame l.self.place l.fn.token l.token;
  still : me_at l.self.place l.token.me ≡ me_at l.self.place l.fn.token.me;
}
