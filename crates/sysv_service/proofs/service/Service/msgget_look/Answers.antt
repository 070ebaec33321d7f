use Rattle.std.proofs.Common.{refl}
use Rattle.sysv_service.proofs.ProceedsByStep.{if_none}
use Rattle.sysv_service.proofs.service.Service.msgget_look.Goals as goal

pub returns-in_err-look-clause-below : goal.returns-in_err-look-clause-below
returns-in_err-look-clause-below c =
    if_none c.from_residual.result (c.in_err-look.ensures.below, c.look.ensures.held)

pub returns-clause-reached : goal.returns-clause-reached
returns-clause-reached c =
    let reached = c.in_ok-look.ensures.reached in
    (c.in_ok-look.field-0, reached.0, reached.1, c.look.ensures.held, refl)
