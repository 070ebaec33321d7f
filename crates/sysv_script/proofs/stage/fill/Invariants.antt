use Rattle.std.proofs.Common.{◌≡◌, ◌++◌, replicate}
use Rattle.sysv_script.proofs.stage.fill.Given as goal

abbrev pub invariant-loop-left : goal.invariant-loop-left
invariant-loop-left l = l.body ++ replicate l.left 120 ≡ replicate l.count 120

abbrev pub decreases-loop-left : goal.decreases-loop-left
decreases-loop-left l = l.left
