use Rattle.sysv_steps.specs.Stepping.{no_moment}
use Rattle.sysv_service.proofs.OverflowsAtWornGate.{each_overflow, each_stop_overflows}
use Rattle.sysv_service.proofs.laws.each_overflow_is_at_a_worn_gate.Goals as goal

pub returns-clause-stamped : goal.returns-clause-stamped
returns-clause-stamped g c =
    each_overflow c.seen_histories.ensures c.own_turns_are_last.ensures c.each_answer_is_right.ensures _

pub returns-clause-unstamped : goal.returns-clause-unstamped
returns-clause-unstamped g c =
    each_overflow c.seen_histories.ensures c.own_turns_are_last.ensures c.each_answer_is_right.ensures no_moment

pub returns-clause-stops : goal.returns-clause-stops
returns-clause-stops g c = each_stop_overflows
