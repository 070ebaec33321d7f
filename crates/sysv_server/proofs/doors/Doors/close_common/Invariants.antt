use Rattle.std.proofs.Common.{◌≡◌, drop, false, take}
use Rattle.std.specs.Prelude.{None, min, vec_len}
use Rattle.std.specs.List.{list_any}
use Rattle.sysv_server.specs.Doors.{OneCame}
use Rattle.sysv_server.proofs.doors.Doors.close_common.Given as goal

-- The sockets before this one are closed, none has accepted anything, and those that are not closed here are as before.
abbrev pub invariant-loop-number : goal.invariant-loop-number
invariant-loop-number g l =
    OneCame g.L.Listens.steps l.fn.self.sockets.items None l.self.sockets.items
    × (vec_len l.self.sockets ≡ vec_len l.fn.self.sockets)
    × (list_any g.L.Listens.listens (take l.number l.self.sockets.items) ≡ false)
    × (drop (min l.fn.self.common (vec_len l.fn.self.sockets)) l.self.sockets.items
    ≡ drop (min l.fn.self.common (vec_len l.fn.self.sockets)) l.fn.self.sockets.items)
