use Rattle.std.proofs.Common.{◌≡◌, ◌<◌, rules, w32, FitsSigned, arith, refl}
use Rattle.std.proofs.lemmas.Grind.{common_steps}
use Rattle.std.proofs.lemmas.Int.{to_z-of_z}
use Rattle.sysv_keys.specs.declared.identifier.TheConstants.{SLOTS}
use Rattle.sysv_keys.specs.State.{places_in}
use Rattle.sysv_keys.proofs.Turns.{turn_found, turn_busy}
use Rattle.sysv_keys.proofs.registry.Registry.find.Goals as goal

pub returns-then-row : goal.returns-then-row
returns-then-row c = λ flags.
    let slot = c.in_ok-slot.field-0.now in
    let place = c.in_ok-place.field-0.now in
    let row = c.in_ok-row.row in
    let is : places_in c.self.inside.places.items slot ≡ place = grind (arith, common_steps) in
    let within : slot < SLOTS = grind (arith, common_steps) in
    let same : row.key ≡ c.args.key = grind (arith, common_steps) in
    let fits : FitsSigned w32 c.id_of-id.result = search rules in (
      rw (to_z-of_z w32 c.id_of-id.result fits, c.id_of-id.ensures, ← c.self.view_is)
          (turn_found _ slot place row within is c.in_ok-row.was c.args.key same c.requires flags c.if-row.true),
      refl,
    )

pub returns-else-row : goal.returns-else-row
returns-else-row c = λ flags.
    let slot = c.in_ok-slot.field-0.now in
    let place = c.in_ok-place.field-0.now in
    let row = c.in_ok-row.row in
    let is : places_in c.self.inside.places.items slot ≡ place = grind (arith, common_steps) in
    let within : slot < SLOTS = grind (arith, common_steps) in
    let same : row.key ≡ c.args.key = grind (arith, common_steps) in (
      rw (← c.self.view_is)
          (turn_busy _ slot place row within is c.in_ok-row.was c.args.key same c.requires flags c.if-row.false),
      refl,
    )
