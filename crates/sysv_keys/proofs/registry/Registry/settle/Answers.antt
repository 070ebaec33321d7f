use Rattle.std.proofs.Common.{false, refl, w32, arith}
use Rattle.std.proofs.lemmas.Grind.{common_steps}
use Rattle.std.proofs.lemmas.Int.{to_z-of_z}
use Rattle.sysv_keys.proofs.States.{makes_turn}
use Rattle.sysv_keys.proofs.Rows.{a_row}
use Rattle.sysv_keys.proofs.Turns.{turn_settled, turn_not_settled}
use Rattle.sysv_keys.proofs.registry.Registry.settle.Goals as goal

pub returns-in-Some-clause-turn : goal.returns-in-Some-clause-turn
returns-in-Some-clause-turn c = grind (arith, common_steps, turn_settled)

pub returns-in_default-clause-turn : goal.returns-in_default-clause-turn
returns-in_default-clause-turn c = grind (arith, common_steps, turn_not_settled)

pub returns-in_default-2-clause-turn : goal.returns-in_default-2-clause-turn
returns-in_default-2-clause-turn c =
    let none = rw (c.in_default.is, to_z-of_z w32 c.args.id c.ranges.id) at c.place_of.ensures in
    makes_turn _ _ _ _ (λ key h. none (a_row c.args.id key false) h refl) refl refl
