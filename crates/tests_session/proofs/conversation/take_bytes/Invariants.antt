use Rattle.std.proofs.Common.{◌≤◌, ◌+◌, length}
use Rattle.sysv_queue.specs.Tally.{taken_in}
use Rattle.tests_session.proofs.conversation.take_bytes.Given as goal

abbrev pub invariant-loop-taken : goal.invariant-loop-taken
invariant-loop-taken g l = taken_in l.conversation.session.tally + length l.conversation.unsent.marks ≤ 6
