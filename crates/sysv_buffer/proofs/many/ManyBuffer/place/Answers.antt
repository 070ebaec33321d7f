use Rattle.std.proofs.Common.{rules, ap, sym, ◌∙◌, ◌∷◌, ◌%◌, Some, length}
use Rattle.atomic_table.specs.Table.{rest}
use Rattle.sysv_buffer.proofs.ManyStepKeepsRule.{places}
use Rattle.sysv_buffer.proofs.many.ManyBuffer.place.Goals as goal

pub fetch_add-requires : goal.fetch_add-requires
fetch_add-requires g c =
    let v = c.args.token.now.me.0 in
    let room = c.requires.room in
    let slots = c.self.invariant.1 ∙ ap (λ b. b.room) c.self.view_is in
    let is = c.exchange-left.ensures.3 ∙ ap (λ xs. (v, (c.args.cell, Some c.args.item) ∷ rest xs)) room.out in (
      search rules,
      search rules,
      places _ _ _ v c.args.cell c.args.item is room.fills (room.place ∙ ap (λ n. length v.seen % n) (sym slots)),
    )
