use Rattle.std.proofs.Common.{◌+◌, ◌≤◌, length, vec_capacity}
use Rattle.std.specs.List.{All}
use Rattle.sysv_service.specs.Seats.{AreOf}
use Rattle.tests_service_threads.proofs.team.split_all.Given as goal

-- The last parts have passes of the service.
abbrev pub invariant-loop-part : goal.invariant-loop-part
invariant-loop-part g l = record {
  pass : AreOf l.service l.pass.seats;
  members : All (λ m. AreOf l.service m.pass.seats) l.members.items;
  room : length l.members.items + length l.parts.items ≤ vec_capacity l.members;
}

abbrev pub decreases-loop-part : goal.decreases-loop-part
decreases-loop-part g l = goal.left-loop-part g l
