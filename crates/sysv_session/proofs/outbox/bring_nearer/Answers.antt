use Rattle.std.proofs.Common.{◌≡◌, suc, ◌+◌, ◌-◌, ◌++◌, ◌∙◌, Some, ap, arith, option_to_list, sym, [], ◌∷◌}
use Rattle.sysv_session.specs.Outbox.{mark_at}
use Rattle.sysv_session.proofs.LayoutLemmas.{nearing_on}
use Rattle.sysv_session.proofs.outbox.bring_nearer.Goals as goal

pub loop-preserved : goal.loop-preserved
loop-preserved c =
    let x = mark_at c.in-Some.field-0.ends c.in-Some.field-0.delivery in
    let found : c.pop_front.result ≡ Some x = sym (rw c.in-Some.is at c.pop_front-in-loop.view_is) in
    let first = c.pop_front.ensures.items ∙ ap (λ o. option_to_list o ++ c.pop_front.new.self.items) found in
    let next : c.len-end.result - c.loop.counter ≡ suc (c.len-end.result - (c.loop.counter + 1)) =
    omega (arith, c.loop-test.true) in
    nearing_on c.args.n _ _ c.args.marks.now.items c.loop.marks.items c.push_back_reserved.new.self.items
    c.pop_front.new.self.items x first next
    (c.push_back_reserved.ensures.items
    ∙ ap (λ n. c.pop_front.new.self.items ++ mark_at n c.in-Some.field-0.delivery ∷ []) c.saturating_sub.ensures)
    c.loop.invariant
