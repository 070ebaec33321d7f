use Rattle.std.specs.Prelude.{⊤}
use Rattle.sysv_service.proofs.opening.end_all.Given as goal

-- Nothing is stated of what is freed.
abbrev pub invariant-loop-object : goal.invariant-loop-object
invariant-loop-object l = ⊤

-- Each round leaves one object fewer.
abbrev pub decreases-loop-object : goal.decreases-loop-object
decreases-loop-object l = goal.left-loop-object l
