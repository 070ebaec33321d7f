use Rattle.std.proofs.Common.{rules, ap, ◌∙◌}
use Rattle.sysv_bells.proofs.SleeperKeepsRule.{stays}
use Rattle.sysv_bells.proofs.bells.Bells.stay_awake.Goals as goal

pub store-requires : goal.store-requires
store-requires c =
    let stage = ap (λ h. h.stage) c.seat.view_is ∙ c.requires.awake in
    (search rules, search rules, stays _ _ _ _ stage)
