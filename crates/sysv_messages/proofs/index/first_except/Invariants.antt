use Rattle.std.proofs.Common.{◌≡◌, ◌+◌}
use Rattle.sysv_messages.proofs.Selection.{NoneBefore}
use Rattle.sysv_messages.proofs.index.first_except.Given as goal

-- Each entry so far has this type, and each was read once.
abbrev pub invariant-loop-at : goal.invariant-loop-at
invariant-loop-at g l = record {
  none : NoneBefore l.refused l.by_number.entries.items l.at;
  read : l.steps ≡ l.initial.steps + l.at;
}
