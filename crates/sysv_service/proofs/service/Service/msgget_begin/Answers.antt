use Rattle.std.proofs.Common.{sym, subst}
use Rattle.std.proofs.lemmas.Int.{to_z-of_z}
use Rattle.sysv_service.specs.Pending.{GetsOn}
use Rattle.sysv_service.proofs.ProceedsByStep.{gets_on}
use Rattle.sysv_service.proofs.service.Service.msgget_begin.Goals as goal

pub returns-clause-ran : goal.returns-clause-ran
returns-clause-ran g c =
    let may = g.C.Clock.may c.args.clock.now in
    let key = c.ranges.key in
    let ran =
    subst (λ s. GetsOn may s c.args.pass.now c.run_on.result c.run_on.new.pass) (sym (c.begin.ensures 0))
    (gets_on may _ c.args.pass.now c.run_on.result c.run_on.new.pass c.run_on.ensures.ran) in
    simp to_z-of_z at ran
