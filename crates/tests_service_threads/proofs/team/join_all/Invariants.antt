use Rattle.std.proofs.Common.{◌+◌, ◌≤◌, length, vec_capacity}
use Rattle.std.specs.List.{All}
use Rattle.sysv_service.specs.Seats.{AreOf}
use Rattle.tests_service_threads.proofs.team.join_all.Given as goal

-- The last passes were joined.
abbrev pub invariant-loop-member : goal.invariant-loop-member
invariant-loop-member g l = record {
  pass : AreOf l.service l.pass.seats;
  members : All (λ m. AreOf l.service m.pass.seats) l.members.items;
  room : length l.parts.items + length l.members.items ≤ vec_capacity l.parts;
}

abbrev pub decreases-loop-member : goal.decreases-loop-member
decreases-loop-member g l = goal.left-loop-member g l
