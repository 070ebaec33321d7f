-- The blocks so far are on the page.
use Rattle.std.proofs.Common.{◌≡◌, ◌++◌, ◌*◌, take}
use Rattle.sysv_model.specs.declared.limits.TheConstants.{BLOCK_BYTES}
use Rattle.sysv_clients.proofs.page.Page.body.Given as goal

abbrev pub invariant-loop-k : goal.invariant-loop-k
invariant-loop-k l = l.self ≡ l.initial.self ++ take (l.k * BLOCK_BYTES) l.text
