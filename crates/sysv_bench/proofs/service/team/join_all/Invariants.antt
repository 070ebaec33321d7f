use Rattle.std.specs.List.{All}
use Rattle.sysv_service.specs.Seats.{AreOf}
use Rattle.sysv_bench.proofs.service.team.join_all.Given as goal

-- The last passes were joined.
abbrev pub invariant-loop-member : goal.invariant-loop-member
invariant-loop-member l = AreOf l.service l.pass.seats × All (λ m. AreOf l.service m.pass.seats) l.members.items

abbrev pub decreases-loop-member : goal.decreases-loop-member
decreases-loop-member l = goal.left-loop-member l
