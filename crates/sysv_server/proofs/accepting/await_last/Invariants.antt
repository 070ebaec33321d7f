use Rattle.std.proofs.Common.{◌≡◌, true}
use Rattle.std.specs.Prelude.{[]}
use Rattle.sysv_server.specs.Doors.{Came}
use Rattle.sysv_server.proofs.accepting.await_last.Given as goal

-- The listener is open, and has accepted nothing.
abbrev pub invariant-loop : goal.invariant-loop
invariant-loop g l =
    (g.L.Listens.accepted l.listener ≡ g.L.Listens.accepted l.fn.listener)
    × (g.L.Listens.listens l.listener ≡ true)
    × Came g.L.Listens.steps l.fn.listener [] l.listener
