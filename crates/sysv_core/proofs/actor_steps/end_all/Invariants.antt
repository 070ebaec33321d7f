use Rattle.std.proofs.Common.{◌≡◌, ◌+◌}
use Rattle.sysv_core.specs.Kept.{blocks_kept}
use Rattle.sysv_core.proofs.actor_steps.end_all.Given as goal

-- The blocks of the calls that were ended are in the chain.
abbrev pub invariant-loop-actor : goal.invariant-loop-actor
invariant-loop-actor l =
    record { all : l.chain.blocks + blocks_kept l.actors.items ≡ blocks_kept l.initial.actors.items }

abbrev pub decreases-loop-actor : goal.decreases-loop-actor
decreases-loop-actor l = goal.left-loop-actor l
