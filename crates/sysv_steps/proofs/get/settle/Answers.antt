use Rattle.std.proofs.Common.{w32, to_z, of_z, Some, refl, ◌≡◌}
use Rattle.std.proofs.lemmas.Int.{to_z-of_z}
use Rattle.sysv_model.specs.Registry.{Settle, Changed}
use Rattle.sysv_model.specs.Turn.{AtRegistry}
use Rattle.sysv_steps.specs.Next.{after_settle}
use Rattle.sysv_steps.specs.Seen.{get_state}
use Rattle.sysv_steps.specs.State.{AtSettle}
use Rattle.sysv_objects.specs.declared.registry.RegistryCall.TheVariants as asked
use Rattle.sysv_steps.specs.Stepping.{no_moment}
use Rattle.sysv_steps.proofs.StepFromReply.{stepped}
use Rattle.sysv_steps.specs.Telling.{registry_told}
use Rattle.sysv_steps.proofs.get.settle.Goals as goal

pub returns-in-Ok-Registry-Changed-clause-steps : goal.returns-in-Ok-Registry-Changed-clause-steps
returns-in-Ok-Registry-Changed-clause-steps g c =
    let id = c.ranges.id in
    let done = c.in-Ok-Registry-Changed._done in
    let told = c.settled.ensures done in
    let w = c.in-Ok-Registry-Changed in
    let made = registry_told g.T.Turns.takes c.args.at.now c.make.new.at (asked.Settle (to_z w32 (of_z w32 c.args.id)))
    w.field-0 w.field-0-0 _ w.field-0-is w.field-0-0-is w.ensures.ok in
    let turn = simp to_z-of_z at made in
    let goes : after_settle c.args.id (Changed done) ≡ Some (get_state c.settled.result) = simp to_z-of_z at told in
    stepped g.T.Turns.takes g.T.Turns.misses no_moment (AtSettle c.args.id) c.args.at.now (get_state c.settled.result)
    c.make.new.at
    (AtRegistry (Settle c.args.id) (Changed done)) 0 (λ e. absurd cc) refl goes turn refl
