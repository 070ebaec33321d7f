use Rattle.std.proofs.Common.{◌<◌, ◌≤◌}
use Rattle.std.specs.List.{All}
use Rattle.sysv_messages.specs.declared.entry.Entry.{Entry}
use Rattle.tests_objects.proofs.index.selections_follow_the_plain_rule.Given as goal

abbrev pub invariant-loop-step : goal.invariant-loop-step
invariant-loop-step g l = record {
  low : All (λ (e : Entry). e.number < l.step) l.index;
  few : l.taken ≤ l.step;
}
