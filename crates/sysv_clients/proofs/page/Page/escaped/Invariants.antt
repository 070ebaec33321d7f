-- The bytes so far are on the page.
use Rattle.std.proofs.Common.{◌≡◌, ◌++◌, take}
use Rattle.sysv_clients.specs.Object.{json_text}
use Rattle.sysv_clients.proofs.page.Page.escaped.Given as goal

abbrev pub invariant-loop-i : goal.invariant-loop-i
invariant-loop-i l = l.self ≡ l.initial.self ++ json_text (take l.i l.body)
