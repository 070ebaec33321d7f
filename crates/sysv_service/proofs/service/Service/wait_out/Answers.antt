use Rattle.std.proofs.Common.{ap, refl, sym, subst}
use Rattle.sysv_steps.specs.State.{Goes}
use Rattle.sysv_service.specs.Waited.{WaitsAbove}
use Rattle.sysv_service.specs.SharedCounts.{count_of}
use Rattle.sysv_service.proofs.ProceedsByStep.{ends_above, ends_still, ends_worn}
use Rattle.sysv_service.proofs.service.Service.wait_out.Goals as goal

pub returns-in-Above-clause-ended : goal.returns-in-Above-clause-ended
returns-in-Above-clause-ended g c =
    let waited = subst (λ w.
    WaitsAbove (count_of c.awaited-count.result.0) c.awaited-count.result.1 c.args.pass.now w c.wait_above.new.pass)
    c.in-Above.is
    c.wait_above.ensures.waited in
    ends_above (g.S.Stepper.wait c.args.stepper.now c.args.wait) (count_of c.awaited-count.result.0)
    c.awaited-count.result.1
    c.awaited-count.ensures.count c.awaited-count.ensures.above c.args.pass.now c.wait_above.new.pass _ _ waited
    (sym (ap Goes c.resume.ensures.next))

pub returns-in-Still-clause-ended : goal.returns-in-Still-clause-ended
returns-in-Still-clause-ended g c =
    let waited = subst (λ w.
    WaitsAbove (count_of c.awaited-count.result.0) c.awaited-count.result.1 c.args.pass.now w c.wait_above.new.pass)
    c.in-Still.is
    c.wait_above.ensures.waited in
    ends_still (g.S.Stepper.wait c.args.stepper.now c.args.wait) (count_of c.awaited-count.result.0)
    c.awaited-count.result.1
    c.awaited-count.ensures.count c.awaited-count.ensures.above c.args.pass.now c.wait_above.new.pass _ waited refl

pub returns-in-Worn-clause-ended : goal.returns-in-Worn-clause-ended
returns-in-Worn-clause-ended g c =
    let waited = subst (λ w.
    WaitsAbove (count_of c.awaited-count.result.0) c.awaited-count.result.1 c.args.pass.now w c.wait_above.new.pass)
    c.in-Worn.is
    c.wait_above.ensures.waited in
    ends_worn (g.S.Stepper.wait c.args.stepper.now c.args.wait) (count_of c.awaited-count.result.0)
    c.awaited-count.result.1
    c.awaited-count.ensures.count c.awaited-count.ensures.above c.args.pass.now c.wait_above.new.pass _ waited refl

pub returns-in-Worn-clause-can : goal.returns-in-Worn-clause-can
returns-in-Worn-clause-can g c = g.met.S.Stepper.is_refused c.args.stepper.now _
