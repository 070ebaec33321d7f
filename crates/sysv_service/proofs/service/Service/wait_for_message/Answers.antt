use Rattle.std.proofs.Common.{refl, sym, ap, subst, rules, w32, FitsSigned}
use Rattle.std.proofs.lemmas.Int.{to_z-of_z}
use Rattle.sysv_steps.specs.Resume.{awaited}
use Rattle.sysv_steps.specs.State.{Goes}
use Rattle.sysv_steps.specs.Giving.{GivesNothing}
use Rattle.sysv_steps.specs.Seen.{receive_wait}
use Rattle.sysv_service.specs.Waited.{WaitsAbove}
use Rattle.sysv_service.proofs.ProceedsByStep.{ends_above, ends_still, ends_worn}
use Rattle.sysv_service.proofs.service.Service.wait_for_message.Goals as goal

pub returns-in-Above-clause-ended : goal.returns-in-Above-clause-ended
returns-in-Above-clause-ended g c = λ out.
    let wait = receive_wait c.args.wait in
    let id : FitsSigned w32 c.args.wait.receive.id = search rules in
    let told = simp to_z-of_z at c.wait_above.ensures.waited in
    let waited =
    subst (λ w. WaitsAbove (awaited wait) c.args.wait.above c.args.pass.now w c.wait_above.new.pass) c.in-Above.is
    told in
    ends_above wait (awaited wait) c.args.wait.above refl refl c.args.pass.now c.wait_above.new.pass _ _ waited
    (sym (ap Goes (c.resume.ensures c.in-Above._value out)))

pub returns-in-Still-clause-ended : goal.returns-in-Still-clause-ended
returns-in-Still-clause-ended g c = λ out.
    let wait = receive_wait c.args.wait in
    let id : FitsSigned w32 c.args.wait.receive.id = search rules in
    let told = simp to_z-of_z at c.wait_above.ensures.waited in
    let waited =
    subst (λ w. WaitsAbove (awaited wait) c.args.wait.above c.args.pass.now w c.wait_above.new.pass) c.in-Still.is
    told in
    ends_still wait (awaited wait) c.args.wait.above refl refl c.args.pass.now c.wait_above.new.pass _ waited refl

pub returns-in-Worn-clause-ended : goal.returns-in-Worn-clause-ended
returns-in-Worn-clause-ended g c = λ out.
    let wait = receive_wait c.args.wait in
    let id : FitsSigned w32 c.args.wait.receive.id = search rules in
    let told = simp to_z-of_z at c.wait_above.ensures.waited in
    let waited =
    subst (λ w. WaitsAbove (awaited wait) c.args.wait.above c.args.pass.now w c.wait_above.new.pass) c.in-Worn.is
    told in
    ends_worn wait (awaited wait) c.args.wait.above refl refl c.args.pass.now c.wait_above.new.pass _ waited refl

pub returns-in-Above-clause-nothing : goal.returns-in-Above-clause-nothing
returns-in-Above-clause-nothing g c = λ out.
    subst (λ p. GivesNothing (Goes p)) (c.resume.ensures c.in-Above._value out) tt
