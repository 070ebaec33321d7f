use Rattle.std.proofs.Common.{rules, arith, ap, ◌∙◌}
use Rattle.sysv_bells.proofs.SleeperKeepsRule.{announces, checks}
use Rattle.sysv_bells.proofs.bells.Bells.fall_asleep.Goals as goal

pub store-requires : goal.store-requires
store-requires c =
    let stage = ap (λ h. h.stage) c.seat.view_is ∙ c.requires.awake in
    let from = ap (λ h. h.from) c.seat.view_is in
    let words = ap (λ z. z.words) c.self.view_is in
    let many = c.self.invariant in
    let read = c.requires.read in
    (search rules, search rules, announces _ _ _ _ stage (omega arith))

pub load-requires : goal.load-requires
load-requires c = (search rules, search rules, checks _ _ _ _ (ap (λ m. m.0.stage) c.store.ensures.2.1))
