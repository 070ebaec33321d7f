use Rattle.sysv_service.proofs.UnwornAtTheEnd.{unmarked_at_the_end}
use Rattle.sysv_thread_laws.proofs.WorkersOfLifetime.{every_hiring, every_stop}
use Rattle.sysv_thread_laws.proofs.PassesAreTeam.{at_any, every_service}
use Rattle.sysv_steps.specs.Stepping.{no_moment}
use Rattle.sysv_thread_laws.proofs.laws.every_hiring_obeys.Goals as goal

pub returns-clause-obeys : goal.returns-clause-obeys
returns-clause-obeys c = every_hiring (every_service c.every_joined_service_is_a_run.ensures.run)

pub returns-clause-stops : goal.returns-clause-stops
returns-clause-stops c = every_stop (at_any no_moment)

pub returns-clause-unmarked : goal.returns-clause-unmarked
returns-clause-unmarked c = unmarked_at_the_end
