use Rattle.std.proofs.Common.{rules, ap, ◌∙◌, length, arith, sym, subst}
use Rattle.sysv_lists.proofs.Places.{at_below}
use Rattle.sysv_gate.specs.History.{Moves}
use Rattle.sysv_gate.specs.Plays.{Merges}
use Rattle.sysv_gate.proofs.PassSplitKeepsRule.{joins_all, merges_all, both_length, both_idle}
use Rattle.sysv_gate.proofs.table.passes.join_pass.Goals as goal

pub join_seat-requires : goal.join_seat-requires
join_seat-requires g c = (
  search rules,
  search rules,
  search rules,
  search rules,
  joins_all _ g.O.Object.counted _ _ _ _ _ _ c.requires.rest.0 c.requires.other_rest.0
      (λ place o opens.
      let one = (c.requires.rest.1 place o opens).1 in
      let two = (c.requires.other_rest.1 place o opens).1 in
      (one.2, one.1, two.0, two.1)),
)

pub load-requires : goal.load-requires
load-requires g c =
    let joined = c.join_seat.ensures.2 in
    let one = c.args.token.now.me.0 in
    let two = c.args.other.me.0 in
    let same = c.requires.other_rest.0 ∙ sym c.requires.rest.0 in (
      search rules,
      search rules,
      merges_all _ g.O.Object.counted _ _ _ _ _
          (ap (λ m. length m.0.views) joined ∙ both_length one.views two.views same ∙ c.requires.rest.0)
          (λ place o opens.
          both_idle one two _ place joined
          (let few = at_below c.args.table.now.shared.key.openings.value.items place o opens in
          let long = c.requires.rest.0 in
          omega arith) same (c.requires.rest.1 place o opens).1.1),
    )

pub returns-clause-joined : goal.returns-clause-joined
returns-clause-joined g c = subst (λ m. Merges (Moves g.O.Object.meaning g.O.Object.counted) m c.load.new.seat.me)
    c.join_seat.ensures.2 c.load.ensures.2
