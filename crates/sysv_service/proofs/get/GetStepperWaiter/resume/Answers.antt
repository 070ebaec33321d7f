use Rattle.sysv_service.proofs.get.GetStepperWaiter.resume.Goals as goal

pub returns-clause-next : goal.returns-clause-next
returns-clause-next g c = c.resume.ensures c.args._value
