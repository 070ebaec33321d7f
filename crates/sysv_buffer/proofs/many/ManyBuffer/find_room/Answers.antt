use Rattle.std.proofs.Common.{rules, ap, sym, ◌∙◌, ◌∷◌, [], length, refl, arith}
use Rattle.sysv_buffer.proofs.ManyStepKeepsRule.{counts_put, counts_taken, draws_put, reaches_room}
use Rattle.sysv_buffer.proofs.many.ManyBuffer.find_room.Goals as goal

pub load-count-requires : goal.load-count-requires
load-count-requires g c = (search rules, search rules, counts_put _ _ _ c.requires.idle.fills c.requires.idle.empties)

pub load-out-requires : goal.load-out-requires
load-out-requires g c =
    let one = c.load-count.ensures.2.is in
    let idle = c.requires.idle in (
      search rules,
      search rules,
      counts_taken _ _ _ (ap (λ m. m.0.fills) one ∙ idle.fills) (ap (λ m. m.0.empties) one ∙ idle.empties),
    )

pub compare_exchange-requires : goal.compare_exchange-requires
compare_exchange-requires g c =
    let one = c.load-count.ensures.2.is in
    let two = c.load-out.ensures.2.0 in
    let idle = c.requires.idle in (
      search rules,
      search rules,
      draws_put _ _ _ _ _ refl (omega arith)
          (ap (λ m. m.0.put_ticket) two ∙ (ap (λ m. m.0.put_ticket) one ∙ idle.put_ticket))
          (ap (λ m. m.0.fills) two ∙ (ap (λ m. m.0.fills) one ∙ idle.fills)),
    )

pub load-requires : goal.load-requires
load-requires g c =
    let one = c.load-count.ensures.2 in
    let two = c.load-out.ensures.2.0 in
    let won = c.compare_exchange.ensures.2.0 (search rules) in
    let count = one.count in (
      search rules,
      search rules,
      reaches_room _ _ _
          (ap (λ m. m.0.put_ticket) won
          ∙ (ap (λ n. n ∷ []) count
          ∙ ap (λ l. length l ∷ [])
          (sym (ap (λ m. m.0.seen) won ∙ (ap (λ m. m.0.seen) two ∙ ap (λ m. m.0.seen) one.is)))))
          (ap (λ m. m.0.fills) won ∙ (ap (λ m. m.0.fills) two ∙ (ap (λ m. m.0.fills) one.is ∙ c.requires.idle.fills))),
    )
