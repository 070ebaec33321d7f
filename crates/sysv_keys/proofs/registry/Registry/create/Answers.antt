use Rattle.std.proofs.Common.{rules, refl, w32, FitsSigned}
use Rattle.std.proofs.lemmas.Int.{to_z-of_z}
use Rattle.sysv_keys.proofs.States.{makes_turn}
use Rattle.sysv_keys.proofs.Turns.{turn_made}
use Rattle.sysv_keys.proofs.registry.Registry.create.Goals as goal

pub returns-in_default-clause-turn : goal.returns-in_default-clause-turn
returns-in_default-clause-turn c = λ flags creates. makes_turn _ _ _ _ (creates, c.in_default.ensures) refl refl

pub returns-clause-turn : goal.returns-clause-turn
returns-clause-turn c =
    let fits : FitsSigned w32 c.id_of-id.result = search rules in
    rw (
      to_z-of_z w32 c.id_of-id.result fits,
      c.id_of-id.ensures,
      c.put.ensures,
      c.made.ensures,
      to_z-of_z w32 c.args.key c.ranges.key,
    )
    (turn_made c.args.self.now c.in-Some.slot c.place-place.result c.args.key c.in-Some.ensures c.place-place.ensures.is
    c.place-place.ensures.there)
