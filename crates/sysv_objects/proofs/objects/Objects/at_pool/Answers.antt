use Rattle.std.proofs.Common.{ap, ◌∙◌, arith}
use Rattle.sysv_objects.specs.Objects.{Objects}
use Rattle.sysv_objects.proofs.Placed.{objects_of, turned_at_pool, stand_at_pool}
use Rattle.sysv_objects.proofs.objects.Objects.at_pool.Goals as goal

pub make-requires : goal.make-requires
make-requires c = λ may.
    let up = (c.requires may).1 in
    let same = ap (λ (o : Objects). o.pool.released) c.self.view_is in
    omega (arith, up, same)

pub invariant_of-self : goal.invariant_of-self
invariant_of-self c = stand_at_pool c.self.inside.slots.items c.self.inside.registry c.self.inside.pool c.make.new.pool
    _ _ c.make.ensures c.self.invariant

pub returns-clause-turn : goal.returns-clause-turn
returns-clause-turn c = (
  turned_at_pool c.self.inside.slots.items c.self.inside.registry c.self.inside.pool c.make.new.pool _ _ c.make.ensures
      c.self.invariant c.args.self.now c.self.view_is,
  c.make.ensures.fits,
)

pub returns-clause-leaves : goal.returns-clause-leaves
returns-clause-leaves c = λ leaves.
    ap (objects_of c.self.inside.slots.items c.self.inside.registry) (c.make.ensures.leaves leaves) ∙ c.self.view_is

pub returns-clause-others : goal.returns-clause-others
returns-clause-others c =
    (ap (λ (o : Objects). o.slots) c.self.view_is, ap (λ (o : Objects). o.registry) c.self.view_is)
