use Rattle.std.proofs.Common.{rules, ap, ◌∙◌, length, arith}
use Rattle.std.proofs.lemmas.List.{length-map}
use Rattle.sysv_lists.proofs.Places.{at_below}
use Rattle.sysv_gate.specs.Steps.{newcomer}
use Rattle.sysv_gate.proofs.PassSplitKeepsRule.{splits_all, names_all, newcomer_at, newcomer_named}
use Rattle.sysv_gate.proofs.table.passes.split_pass.Goals as goal

pub split_seat-other-requires : goal.split_seat-other-requires
split_seat-other-requires g c = (search rules, search rules, splits_all _ g.O.Object.counted _ _ _ _ c.requires.rest.0)

pub load-requires : goal.load-requires
load-requires g c =
    let is = c.split_seat-other.ensures.4 in
    let sight = c.args.token.now.me.0 in (
      search rules,
      search rules,
      names_all _ g.O.Object.counted _ _ _ _ _
          (ap (λ m. length m.0.views) is ∙ length-map sight.views newcomer ∙ c.requires.rest.0)
          (λ place o opens.
          newcomer_at sight _ o place is
          (let few = at_below c.args.table.now.shared.key.openings.value.items place o opens in
          let long = c.requires.rest.0 in
          omega arith) (c.requires.rest.1 place o opens).0),
    )

pub returns-clause-new : goal.returns-clause-new
returns-clause-new g c =
    (search rules, newcomer_named c.args.token.now.me.0 _ _ c.split_seat-other.ensures.4 c.load.ensures.2)
