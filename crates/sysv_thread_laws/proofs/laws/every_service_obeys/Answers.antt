use Rattle.sysv_thread_laws.proofs.PassesAreTeam.{at_any, every_service}
use Rattle.sysv_steps.specs.Stepping.{no_moment}
use Rattle.sysv_thread_laws.proofs.laws.every_service_obeys.Goals as goal

pub returns-clause-obeys : goal.returns-clause-obeys
returns-clause-obeys g c = every_service c.every_joined_service_is_a_run.ensures.run

pub returns-clause-stamped : goal.returns-clause-stamped
returns-clause-stamped g c = at_any _

pub returns-clause-unstamped : goal.returns-clause-unstamped
returns-clause-unstamped g c = at_any no_moment
