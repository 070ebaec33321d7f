use Rattle.std.proofs.Common.{◌≡◌, drop}
use Rattle.std.specs.Prelude.{None, min, vec_len}
use Rattle.sysv_server.specs.Doors.{OneCame}
use Rattle.sysv_server.proofs.doors.Doors.open_all.Given as goal

-- No socket has accepted anything, and those that are not opened here are as before.
abbrev pub invariant-loop-number : goal.invariant-loop-number
invariant-loop-number g l =
    OneCame g.L.Listens.steps l.fn.self.sockets.items None l.self.sockets.items
    × (vec_len l.self.sockets ≡ vec_len l.fn.self.sockets)
    × (l.self.common ≡ l.fn.self.common)
    × (drop (min l.fn.self.common (vec_len l.fn.self.sockets)) l.self.sockets.items
    ≡ drop (min l.fn.self.common (vec_len l.fn.self.sockets)) l.fn.self.sockets.items)
