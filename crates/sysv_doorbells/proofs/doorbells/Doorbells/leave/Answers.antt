use Rattle.std.proofs.Common.{rules, ap, arith, ◌∙◌}
use Rattle.sysv_doorbells.proofs.SleeperKeepsRule.{leaves}
use Rattle.sysv_doorbells.proofs.doorbells.Doorbells.leave.Goals as goal

pub fetch_sub-requires : goal.fetch_sub-requires
fetch_sub-requires c =
    let many = c.self.invariant.0 in
    let seat = ap (λ e. e.table.words) c.seat.view_is in
    let same = ap (λ z. z.words) c.requires in
    let words = ap (λ z. z.words) c.self.view_is in
    let within = c.seat.invariant.within in
    let is = c.seat.invariant.bell.1 in (
      search rules,
      omega arith,
      leaves _ _ _ _ _ (c.seat.invariant.bell.0, omega arith, is)
          (ap (λ m. m.0.stage) c.clear.ensures.1 ∙ c.seat.invariant.ready)
          (ap (λ m. m.0.at) c.clear.ensures.1 ∙ c.seat.invariant.at),
    )
