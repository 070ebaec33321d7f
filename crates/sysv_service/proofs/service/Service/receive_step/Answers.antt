use Rattle.std.proofs.Common.{subst}
use Rattle.sysv_steps.specs.Giving.{StepsGiving}
use Rattle.sysv_service.specs.Seats.{MakesTurnAt, FindsWorn}
use Rattle.sysv_service.specs.Ran.{Pass}
use Rattle.sysv_service.proofs.service.Service.receive_step.Goals as goal

pub returns-clause-steps : goal.returns-clause-steps
returns-clause-steps g c =
    subst
    (λ (b : Pass).
    StepsGiving MakesTurnAt FindsWorn (g.C.Clock.may c.args.clock.now) c.args.step c.args.out.now b.seats b.held
    c.receive_step.result c.receive_step.new.out c.receive_step.new.at
    c.receive_step.new.kept.blocks)
    c.pass.view_is c.receive_step.ensures.steps
