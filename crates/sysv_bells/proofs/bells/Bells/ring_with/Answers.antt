use Rattle.std.proofs.Common.{rules, ap}
use Rattle.sysv_bells.proofs.StepKeepsRule.{rings, finds}
use Rattle.sysv_bells.proofs.bells.Bells.ring_with.Goals as goal

pub store-requires : goal.store-requires
store-requires c = (search rules, search rules, rings _ _ _ _ c.requires.may_ring)

pub swap-requires : goal.swap-requires
swap-requires c = (search rules, search rules, finds _ _ _ _ (ap (λ m. m.0.stage) c.store.ensures.2))
