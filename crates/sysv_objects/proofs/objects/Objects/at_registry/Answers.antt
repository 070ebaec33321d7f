use Rattle.std.proofs.Common.{ap, ◌∙◌}
use Rattle.sysv_objects.specs.Objects.{Objects}
use Rattle.sysv_objects.proofs.Lifting.{stand_on, at_registry}
use Rattle.sysv_objects.proofs.Placed.{objects_of, turned_at_registry}
use Rattle.sysv_objects.proofs.objects.Objects.at_registry.Goals as goal

pub invariant_of-self : goal.invariant_of-self
invariant_of-self c =
    stand_on (objects_of c.self.inside.slots.items c.self.inside.registry c.self.inside.pool) _ _ c.self.invariant
    (at_registry (objects_of c.self.inside.slots.items c.self.inside.registry c.self.inside.pool) c.make.new.registry _
    _ c.make.ensures.turn)

pub returns-clause-turn : goal.returns-clause-turn
returns-clause-turn c = (
  turned_at_registry c.self.inside.slots.items c.self.inside.registry c.self.inside.pool c.args.self.now c.self.view_is
      c.make.new.registry _ _ c.make.ensures.turn,
  c.make.ensures.fits,
)

pub returns-clause-leaves : goal.returns-clause-leaves
returns-clause-leaves c = λ leaves.
    ap (λ registry. objects_of c.self.inside.slots.items registry c.self.inside.pool) (c.make.ensures.leaves leaves)
    ∙ c.self.view_is

pub returns-clause-others : goal.returns-clause-others
returns-clause-others c = (ap (λ (o : Objects). o.slots) c.self.view_is, ap (λ (o : Objects). o.pool) c.self.view_is)
