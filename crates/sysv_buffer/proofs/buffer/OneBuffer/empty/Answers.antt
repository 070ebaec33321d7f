use Rattle.std.proofs.Common.{rules, ap, sym, ◌∙◌, ◌∷◌, ◌%◌, Some, None}
use Rattle.atomic_table.specs.Table.{rest}
use Rattle.sysv_buffer.proofs.StepKeepsRule.{takes'}
use Rattle.sysv_buffer.proofs.buffer.OneBuffer.empty.Goals as goal

pub exchange-requires : goal.exchange-requires
exchange-requires g c =
    let out = c.requires.out in
    (search rules, (Some out.0, out.1 ∙ ap (λ xs. (c.args.cell, Some out.0) ∷ rest xs) (sym out.1)))

pub fetch_add-requires : goal.fetch_add-requires
fetch_add-requires g c =
    let v = c.args.token.now.me.0 in
    let out = c.requires.out in
    let slots = c.self.invariant.1 ∙ ap (λ b. b.room) c.self.view_is in
    let is = c.exchange.ensures.3 ∙ ap (λ xs. (v, (c.args.cell, None) ∷ rest xs)) out.1 in (
      search rules,
      search rules,
      takes' _ _ _ v c.args.cell is c.requires.consumer c.requires.busy
          (c.requires.place ∙ ap (λ n. v.taken % n) (sym slots)),
    )
