use Rattle.std.proofs.Common.{rules, ap}
use Rattle.sysv_bells.proofs.SleeperKeepsRule.{wakes, hears}
use Rattle.sysv_bells.proofs.bells.Bells.wake_up.Goals as goal

pub store-requires : goal.store-requires
store-requires c = (search rules, search rules, wakes _ _ _ _ c.seat.invariant.sleeps)

pub swap-requires : goal.swap-requires
swap-requires c = (search rules, search rules, hears _ _ _ _ (ap (λ m. m.0.stage) c.store.ensures.2))
