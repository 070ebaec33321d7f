use Rattle.std.specs.Prelude.{⊤}
use Rattle.tests_service.proofs.gated.end_slots.Given as goal

-- Nothing is stated about what is freed.
abbrev pub invariant-loop-closing : goal.invariant-loop-closing
invariant-loop-closing l = ⊤

-- There is one fewer each time.
abbrev pub decreases-loop-closing : goal.decreases-loop-closing
decreases-loop-closing l = goal.left-loop-closing l
