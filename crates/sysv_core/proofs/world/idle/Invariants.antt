use Rattle.std.proofs.Common.{◌≡◌, None, replicate}
use Rattle.sysv_core.proofs.world.idle.Given as goal

abbrev pub invariant-loop : goal.invariant-loop
invariant-loop l = l.idle.items ≡ replicate l.counter None
