use Rattle.std.proofs.Common.{rules, arith, ap, subst, length}
use Rattle.atomic_table.proofs.Lists.{at_index}
use Rattle.sysv_gate.specs.Laying.{AreLocksUpTo}
use Rattle.sysv_gate.proofs.Laid.{one_lock}
use Rattle.sysv_gate.proofs.table.laying.locks_for.Goals as goal

pub loop-place-init : goal.loop-place-init
loop-place-init g c =
    record { locks = (ap length c.in-Ok.ensures.items, λ place o less at. absurd (omega arith)); room = search rules }

pub loop-place-preserved : goal.loop-place-preserved
loop-place-preserved g c =
    let inside = c.loop-place-test.true in
    let counted = c.len-place-end.ensures in
    let long = c.args.objects.now.ok.0 in
    let at = at_index c.args.objects.now.items c.loop-place.place _ (omega arith) c.index.ensures in
    record {
      locks = one_lock c.args.objects.now.items c.loop-place.place _ _ _ _ c.loop-place.invariant.locks
          c.push_reserved.ensures.items at c.in-Some.ensures.0 c.in-Some.ensures.1;
      room = search rules;
    }

pub returns : goal.returns
returns g c =
    let over = c.loop-place-test.false in
    let counted = c.len-place-end.ensures in
    let long = c.args.objects.now.ok.0 in
    let most = c.loop-place.auto.place-end in
    subst (λ n. AreLocksUpTo c.args.objects.now.items n c.loop-place.locks.items) (omega arith)
    c.loop-place.invariant.locks
