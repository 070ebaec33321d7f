use Rattle.std.proofs.Common.{◌≡◌}
use Rattle.std.specs.Prelude.{None, vec_len}
use Rattle.std.specs.List.{list_any}
use Rattle.sysv_server.specs.Doors.{IsFailure, OneCame}
use Rattle.sysv_server.proofs.doors.DoorsListens.accept.Given as goal

-- No socket has accepted anything, and each failure was one of an accept.
abbrev pub invariant-loop : goal.invariant-loop
invariant-loop g l =
    OneCame g.L.Listens.steps l.fn.self.sockets.items None l.self.sockets.items
    × (vec_len l.self.sockets ≡ vec_len l.fn.self.sockets)
    × (list_any g.L.Listens.listens l.self.sockets.items ≡ list_any g.L.Listens.listens l.fn.self.sockets.items)
    × IsFailure g.L.Listens.fails l.failed
