use Rattle.std.proofs.Common.{rules, ap, refl, arith, ◌∙◌, ◌+◌, ◌*◌}
use Rattle.sysv_doorbells.specs.Rule.{IsBell}
use Rattle.sysv_doorbells.proofs.SleeperKeepsRule.{reads, notes, opens_up}
use Rattle.sysv_doorbells.proofs.doorbells.Doorbells.read.Goals as goal

pub load-requires : goal.load-requires
load-requires c =
    let many = c.self.invariant.0 in
    let words = ap (λ z. z.words) c.self.view_is in
    let within = c.requires.within in
    let is = c.requires.bell.1 in
    let place : IsBell c.self.inside.table.shared.key c.args.at = (c.requires.bell.0, omega arith, is) in (
      search rules,
      omega arith,
      reads _ _ _ _ _ place c.if-at-ne-ENTRANCE.true c.requires.entered.0 c.requires.entered.1,
    )

pub load-strokes-requires : goal.load-strokes-requires
load-strokes-requires c =
    let many = c.self.invariant.0 in
    let words = ap (λ z. z.words) c.self.view_is in
    let within = c.requires.within in
    let is = c.requires.bell.1 in
    let place : IsBell c.self.inside.table.shared.key c.args.at = (c.requires.bell.0, omega arith, is) in
    (search rules, omega arith, notes _ _ _ _ _ place c.requires.entered.0 c.requires.entered.1)

pub store-requires : goal.store-requires
store-requires c =
    let many = c.self.invariant.0 in
    (search rules, omega arith, opens_up _ _ _ _ (ap (λ m. m.0.stage) c.load-strokes.ensures.2))
