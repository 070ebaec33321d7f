use Rattle.std.proofs.Common.{◌∙◌, arith, sym, subst, ◌+◌}
use Rattle.atomic_table.proofs.Lists.{at_index}
use Rattle.sysv_gate.specs.Laying.{AreLaidUpTo}
use Rattle.sysv_gate.proofs.Laid.{none_laid, one_laid}
use Rattle.sysv_gate.proofs.table.laying.words_for.Goals as goal

pub loop-place-init : goal.loop-place-init
loop-place-init g c = none_laid _ _ _ _ c.new-words.ensures.items

pub loop-place-preserved : goal.loop-place-preserved
loop-place-preserved g c =
    let inside = c.loop-place-test.true in
    let counted = c.len-place-end.ensures in
    let long = c.args.objects.now.ok.0 in
    let tickets = c.words_at-new.ensures.tickets in
    let counts = c.words_at-new.ensures.counts in
    let at = at_index c.args.objects.now.items c.loop-place.place _ (omega arith) c.index.ensures in
    subst (AreLaidUpTo g.O.Object.counted c.args.first c.args.objects.now.items (c.loop-place.place + 1))
    (sym c.in-Ok.ensures.items)
    (one_laid g.O.Object.counted c.args.first c.args.objects.now.items c.loop-place.place c.loop-place.words.items _ _
    c.loop-place.invariant tickets.0 at
    (tickets.1, tickets.2, counts.0 ∙ c.counts.ensures.0, counts.1 ∙ c.counts.ensures.1))

pub returns : goal.returns
returns g c =
    let over = c.loop-place-test.false in
    let counted = c.len-place-end.ensures in
    let long = c.args.objects.now.ok.0 in
    let most = c.loop-place.auto.place-end in
    subst (λ n. AreLaidUpTo g.O.Object.counted c.args.first c.args.objects.now.items n c.loop-place.words.items)
    (omega arith) c.loop-place.invariant
