use Rattle.sysv_steps.specs.Stepping.{no_moment}
use Rattle.sysv_service.proofs.PlaysOwnTurns.{each_plays}
use Rattle.sysv_service.proofs.laws.each_plays_its_own.Goals as goal

pub returns-clause-stamped : goal.returns-clause-stamped
returns-clause-stamped g c = each_plays _

pub returns-clause-unstamped : goal.returns-clause-unstamped
returns-clause-unstamped g c = each_plays no_moment
