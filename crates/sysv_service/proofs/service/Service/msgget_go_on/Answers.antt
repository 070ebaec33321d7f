use Rattle.sysv_service.proofs.ProceedsByStep.{gets_on}
use Rattle.sysv_service.proofs.service.Service.msgget_go_on.Goals as goal

pub returns-clause-ran : goal.returns-clause-ran
returns-clause-ran g c =
    gets_on (g.C.Clock.may c.args.clock.now) _ c.args.pass.now c.run_on.result c.run_on.new.pass c.run_on.ensures.ran
