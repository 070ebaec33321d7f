use Rattle.std.proofs.Common.{refl, rules, w32, FitsSigned}
use Rattle.std.proofs.lemmas.Int.{to_z-of_z}
use Rattle.sysv_service.proofs.ProceedsByStep.{if_none}
use Rattle.sysv_service.proofs.service.Service.msgrcv_look.Goals as goal

pub returns-in_err-look-clause-below : goal.returns-in_err-look-clause-below
returns-in_err-look-clause-below c =
    let id : FitsSigned w32 c.args.wait.now.receive.id = search rules in
    let below = simp to_z-of_z at c.in_err-look.ensures.below in
    if_none c.from_residual.result (below, c.look.ensures.held)

pub returns-clause-reached : goal.returns-clause-reached
returns-clause-reached c =
    let id : FitsSigned w32 c.args.wait.now.receive.id = search rules in
    let reached = simp to_z-of_z at c.in_ok-look.ensures.reached in
    (c.in_ok-look.field-0, reached.0, reached.1, c.look.ensures.held, refl)
