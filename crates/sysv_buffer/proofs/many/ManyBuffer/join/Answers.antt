use Rattle.std.proofs.Common.{rules, ap, ◌∙◌}
use Rattle.sysv_buffer.proofs.ManySplitKeepsRule.{many_joins}
use Rattle.sysv_buffer.proofs.ManyStepKeepsRule.{counts_put}
use Rattle.sysv_buffer.proofs.many.ManyBuffer.join.Goals as goal

pub join_seat-requires : goal.join_seat-requires
join_seat-requires g c =
    let rest = c.seat.invariant in
    let other = c.into_token-token.ensures.waits in (
      search rules,
      search rules,
      search rules,
      search rules,
      many_joins _ _ _ _ rest.fills rest.empties other.fills other.empties other.put_ticket other.take_ticket,
    )

pub load-requires : goal.load-requires
load-requires g c =
    let rest = c.seat.invariant in
    let e = c.join_seat.ensures in (
      search rules,
      search rules,
      counts_put _ _ _ (ap (λ m. m.0.fills) e.2 ∙ rest.fills) (ap (λ m. m.0.empties) e.2 ∙ rest.empties),
    )
