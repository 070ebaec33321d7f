use Rattle.std.proofs.Common.{subst}
use Rattle.sysv_service.specs.SeenHistories.{EachKnowsItsOwn, ObeysIfOpen}
use Rattle.sysv_service.specs.Ran.{Pass}
use Rattle.sysv_service.proofs.laws.each_pass_obeys.Goals as goal

pub returns-clause-knows : goal.returns-clause-knows
returns-clause-knows c = subst (λ (p : Pass). EachKnowsItsOwn p.seats) c.pass.view_is c.each_seat_obeys.ensures.knows

pub returns-clause-obeys : goal.returns-clause-obeys
returns-clause-obeys c = subst (λ (p : Pass). ObeysIfOpen p.seats) c.pass.view_is c.each_seat_obeys.ensures.obeys
