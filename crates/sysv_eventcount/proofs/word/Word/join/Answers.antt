use Rattle.std.proofs.Common.{rules, sym, subst}
use Rattle.sysv_lists.specs.Numbers.{NoneTwice}
use Rattle.sysv_eventcount.specs.Steps.{Mine}
use Rattle.sysv_eventcount.proofs.StepKeepsRule.{joins, weighs}
use Rattle.sysv_eventcount.proofs.word.Word.join.Goals as goal

pub join_seat-requires : goal.join_seat-requires
join_seat-requires g c = (
  search rules,
  search rules,
  search rules,
  search rules,
  joins _ _ _ _ _ c.seat.invariant.not_cleared c.other.invariant.not_cleared c.seat.invariant.unspent,
)

pub load-requires : goal.load-requires
load-requires g c = (search rules, search rules, weighs _ _ _ _)

pub returns-clause-once : goal.returns-clause-once
returns-clause-once g c =
    let told = c.load.ensures.2 in
    subst (λ (m : Mine). NoneTwice m.0.own) (sym told.0) told.2
