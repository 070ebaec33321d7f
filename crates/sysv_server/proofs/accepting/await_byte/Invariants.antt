use Rattle.std.proofs.Common.{◌≡◌}
use Rattle.std.specs.Prelude.{is_some}
use Rattle.sysv_server.proofs.accepting.await_byte.Given as goal

-- The input is there, or not, as before.
abbrev pub invariant-loop : goal.invariant-loop
invariant-loop g l = is_some l.input ≡ is_some l.fn.input
