use Rattle.sysv_steps.specs.Stepping.{no_moment}
use Rattle.sysv_thread_laws.proofs.FewSteps.{few_turns, few_gates}
use Rattle.sysv_thread_laws.proofs.MostSteps.{each_number}
use Rattle.sysv_thread_laws.proofs.laws.each_call_makes_few_turns.Goals as goal

pub returns-clause-table : goal.returns-clause-table
returns-clause-table g c = few_turns

pub returns-clause-reached : goal.returns-clause-reached
returns-clause-reached g c = each_number

pub returns-clause-gates : goal.returns-clause-gates
returns-clause-gates g c = few_gates _

pub returns-clause-unstamped : goal.returns-clause-unstamped
returns-clause-unstamped g c = few_gates no_moment
