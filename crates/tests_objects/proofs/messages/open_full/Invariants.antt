use Rattle.std.proofs.Common.{◌<◌}
use Rattle.std.specs.List.{All}
use Rattle.sysv_model.specs.Message.{Message}
use Rattle.tests_objects.proofs.messages.open_full.Given as goal

-- The numbers so far are below the next one.
abbrev pub invariant-loop-number : goal.invariant-loop-number
invariant-loop-number g l = All (λ (m : Message). m.number < l.number) l.desk.messages
