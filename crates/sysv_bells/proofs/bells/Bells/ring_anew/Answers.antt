use Rattle.std.proofs.Common.{rules, ap}
use Rattle.sysv_bells.proofs.StepKeepsRule.{comes, finds}
use Rattle.sysv_bells.proofs.bells.Bells.ring_anew.Goals as goal

pub swap_new_seat-token-requires : goal.swap_new_seat-token-requires
swap_new_seat-token-requires c = (search rules, comes _ _)

pub swap-has_to-requires : goal.swap-has_to-requires
swap-has_to-requires c =
    (search rules, search rules, finds _ _ _ _ (ap (λ m. m.0.stage) c.swap_new_seat-token.ensures.1))
