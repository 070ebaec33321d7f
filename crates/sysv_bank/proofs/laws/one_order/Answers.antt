use Rattle.std.proofs.Common.{sym, ◌∙◌}
use Rattle.sysv_gate.proofs.LawsFromRule.{prefix_either}
use Rattle.sysv_bank.proofs.laws.one_order.Goals as goal

pub returns : goal.returns
returns g c openings first s held i k v w at there =
    let one = (held.1.seen i v at).0 in
    let two = (held.1.seen k w there).0 in
    prefix_either v.seen w.seen one.0 two.0 (sym one.1 ∙ two.1)
