use Rattle.std.proofs.Common.{rules, ap, sym, ◌∙◌, ◌++◌, ◌∷◌, ◌%◌, Some, None, arith}
use Rattle.sysv_lists.specs.Numbers.{times}
use Rattle.atomic_table.specs.Table.{rest}
use Rattle.sysv_buffer.proofs.ManyStepKeepsRule.{removes}
use Rattle.sysv_buffer.proofs.many.ManyBuffer.remove.Goals as goal

pub exchange-requires : goal.exchange-requires
exchange-requires g c =
    let has = c.requires.item in
    (search rules, (Some has.item, has.out ∙ ap (λ xs. (c.args.cell, Some has.item) ∷ rest xs) (sym has.out)))

pub fetch_add-requires : goal.fetch_add-requires
fetch_add-requires g c =
    let v = c.args.token.now.me.0 in
    let has = c.requires.item in
    let slots = c.self.invariant.1 ∙ ap (λ b. b.room) c.self.view_is in
    let is = c.exchange.ensures.3 ∙ ap (λ xs. (v, (c.args.cell, None) ∷ rest xs)) has.out in (
      search rules,
      search rules,
      removes _ _ _ v c.args.cell has.place is has.empties has.take_ticket
          (has.is ∙ ap (λ n. has.place % n) (sym slots)),
    )

pub returns-clause-taken : goal.returns-clause-taken
returns-clause-taken g c =
    let has = c.requires.item in
    let moved = c.exchange.ensures.3 in
    let left = c.fetch_add.ensures.2 in record {
      waits = record {
        no_cell = ap (λ m. m.1) left.0 ∙ (ap (λ m. rest m.1) moved ∙ ap rest has.out);
        fills = ap (λ m. m.0.fills) left.0 ∙ (ap (λ m. m.0.fills) moved ∙ has.fills);
        empties = ap (λ m. m.0.empties) left.0;
        put_ticket = ap (λ m. m.0.put_ticket) left.0 ∙ (ap (λ m. m.0.put_ticket) moved ∙ has.put_ticket);
        take_ticket = ap (λ m. m.0.take_ticket) left.0;
      };
      seen = ap (λ m. m.0.seen) left.0 ∙ ap (λ m. m.0.seen) moved;
      puts = ap (λ m. m.0.puts) left.0 ∙ ap (λ m. m.0.puts) moved;
      takes = ap (λ m. m.0.takes) left.0 ∙ ap (λ m. m.0.takes ++ m.0.take_ticket) moved;
      later = λ k j before drawn.
          let own = ap (λ m. times k m.0.takes) moved in
          let ticket = ap (λ m. times j m.0.take_ticket) moved in left.1 k j (omega arith) (omega arith);
    }
