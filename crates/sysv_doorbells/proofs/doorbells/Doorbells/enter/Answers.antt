use Rattle.std.proofs.Common.{rules, ap, refl, arith, ◌∙◌}
use Rattle.sysv_doorbells.proofs.SleeperKeepsRule.{enters}
use Rattle.sysv_doorbells.proofs.doorbells.Doorbells.enter.Goals as goal

pub fetch_add-requires : goal.fetch_add-requires
fetch_add-requires c =
    let many = c.self.invariant.0 in
    let words = ap (λ z. z.words) c.self.view_is in
    let within = c.requires.within in (
      search rules,
      omega arith,
      enters _ _ _ _ _ (c.args.bell, omega arith, refl) (ap (λ m. m.0.stage) c.come-token.ensures.me),
    )

pub read-strokes-requires-clause-bell : goal.read-strokes-requires-clause-bell
read-strokes-requires-clause-bell c = (c.args.bell, refl)

pub read-strokes-requires-clause-entered : goal.read-strokes-requires-clause-entered
read-strokes-requires-clause-entered c =
    (ap (λ m. m.0.stage) c.fetch_add.ensures.2, ap (λ m. m.0.at) c.fetch_add.ensures.2)
