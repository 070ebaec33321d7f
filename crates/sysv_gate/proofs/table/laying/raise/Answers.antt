use Rattle.std.proofs.Common.{rules, ◌≡◌, ap, sym, subst, ◌∙◌, length}
use Rattle.sysv_gate.specs.History.{Moves}
use Rattle.sysv_gate.specs.Laying.{AreLaidUpTo, all_put}
use Rattle.sysv_gate.proofs.Laid.{lays, same_put}
use Rattle.sysv_gate.proofs.table.laying.raise.Goals as goal

pub new-requires : goal.new-requires
new-requires g c =
    let counted = g.O.Object.counted in
    let same = c.requires.key.0 in
    let words : c.deref.result.now ≡ c.args.words.now.items = search rules in
    let laid = subst (λ os. AreLaidUpTo counted c.args.key.now.first os (length os) c.deref.result.now) (sym same)
    (subst (λ ws.
    AreLaidUpTo counted c.args.key.now.first c.args.objects.now.items (length c.args.objects.now.items) ws) (sym words)
    c.requires.laid) in
    lays (Moves g.O.Object.meaning counted) counted c.args.key.now.openings.value.items c.args.key.now.first
    c.deref.result.now c.fill.new.spots.items c.requires.key.1 laid (c.fill.ensures.spots ∙ ap all_put (sym same))

pub returns-in-Err-clause-none : goal.returns-in-Err-clause-none
returns-in-Err-clause-none g c = same_put _ _ (sym c.empty.ensures.back ∙ c.in-Err.ensures.err ∙ c.fill.ensures.spots)
