use Rattle.sysv_keys.proofs.Turns.{stands_fresh}
use Rattle.sysv_keys.proofs.registry.Registry.open_at.Goals as goal

pub returns-clause-stands : goal.returns-clause-stands
returns-clause-stands c =
    rw (c.in_ok-places.ensures.items_if_clones_equal (λ y same. same)) (stands_fresh c.args.generation)
