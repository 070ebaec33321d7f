use Rattle.std.proofs.Common.{◌≡◌, ◌≢◌}
use Rattle.sysv_gate.specs.History.{Moves}
use Rattle.sysv_gate.specs.Turns.{TurnCame, SawMore}
use Rattle.sysv_gate.specs.Tables.{me_at}
use Rattle.sysv_gate.specs.Locks.{IsSame}
use Rattle.sysv_gate.proofs.lock.PlaceLock.spin.Given as goal

-- What the last look shows.
abbrev pub invariant-loop : goal.invariant-loop
invariant-loop g l = record {
  same : IsSame l.self.place l.fn.token l.token;
  turn : l.served ≡ l.ticket →
      TurnCame (Moves g.O.Object.meaning g.O.Object.counted) g.O.Object.counted l.self.opening
      (me_at l.self.place l.fn.token.me).0 l.ticket (me_at l.self.place l.token.me);
  waits : l.served ≢ l.ticket → SawMore (me_at l.self.place l.fn.token.me).0 (me_at l.self.place l.token.me);
}
