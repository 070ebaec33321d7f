use Rattle.std.proofs.Common.{refl, w32, arith}
use Rattle.std.proofs.lemmas.Grind.{common_steps}
use Rattle.std.proofs.lemmas.Int.{to_z-of_z}
use Rattle.sysv_keys.proofs.States.{makes_turn}
use Rattle.sysv_keys.proofs.Turns.{turn_forgotten}
use Rattle.sysv_keys.proofs.registry.Registry.forget.Goals as goal

pub returns-in_default-clause-turn : goal.returns-in_default-clause-turn
returns-in_default-clause-turn c =
    makes_turn _ _ _ _ (rw (to_z-of_z w32 c.args.id c.ranges.id) at c.in_default.ensures) refl refl

pub returns-clause-turn : goal.returns-clause-turn
returns-clause-turn c = grind (arith, common_steps, turn_forgotten)
