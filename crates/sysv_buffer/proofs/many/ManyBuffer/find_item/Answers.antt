use Rattle.std.proofs.Common.{rules, ap, sym, ◌∙◌, ◌∷◌, [], refl, arith}
use Rattle.sysv_buffer.proofs.ManyStepKeepsRule.{counts_put, counts_taken, draws_take, reaches_item}
use Rattle.sysv_buffer.proofs.many.ManyBuffer.find_item.Goals as goal

pub load-count-requires : goal.load-count-requires
load-count-requires g c = (search rules, search rules, counts_taken _ _ _ c.requires.idle.fills c.requires.idle.empties)

pub load-put-requires : goal.load-put-requires
load-put-requires g c =
    let one = c.load-count.ensures.2.0 in
    let idle = c.requires.idle in (
      search rules,
      search rules,
      counts_put _ _ _ (ap (λ m. m.0.fills) one ∙ idle.fills) (ap (λ m. m.0.empties) one ∙ idle.empties),
    )

pub compare_exchange-requires : goal.compare_exchange-requires
compare_exchange-requires g c =
    let one = c.load-count.ensures.2.0 in
    let two = c.load-put.ensures.2.is in
    let idle = c.requires.idle in (
      search rules,
      search rules,
      draws_take _ _ _ _ _ refl (omega arith)
          (ap (λ m. m.0.take_ticket) two ∙ (ap (λ m. m.0.take_ticket) one ∙ idle.take_ticket))
          (ap (λ m. m.0.empties) two ∙ (ap (λ m. m.0.empties) one ∙ idle.empties)),
    )

pub load-requires : goal.load-requires
load-requires g c =
    let one = c.load-count.ensures.2.0 in
    let two = c.load-put.ensures.2 in
    let won = c.compare_exchange.ensures.2.0 (search rules) in
    let idle = c.requires.idle in (
      search rules,
      search rules,
      reaches_item _ _ _
          (ap (λ m. m.0.take_ticket) won
          ∙ ap (λ n. n ∷ []) (sym (ap (λ m. m.0.gone) won ∙ (ap (λ m. m.0.gone) two.is ∙ ap (λ m. m.0.gone) one))))
          (ap (λ m. m.0.empties) won ∙ (ap (λ m. m.0.empties) two.is ∙ (ap (λ m. m.0.empties) one ∙ idle.empties)))
          (ap (λ m. m.0.fills) won ∙ (ap (λ m. m.0.fills) two.is ∙ (ap (λ m. m.0.fills) one ∙ idle.fills))),
    )
