use Rattle.std.proofs.Common.{◌≡◌, ◌+◌, List, ◌++◌, length, vec_capacity}
use Rattle.std.specs.List.{All}
use Rattle.sysv_workers.specs.Teams.{AreOn}
use Rattle.sysv_workers.proofs.team.start_all.Given as goal

-- The states at the end of the list have threads.
abbrev pub invariant-loop-state : goal.invariant-loop-state
invariant-loop-state g l = record {
  buffer : l.seat.buffer ≡ l.buffer;
  takes : l.seat.takes ≡ l.fn.seat.takes;
  fits : All (g.J.Job.fits l.job) l.states.items;
  capacity : vec_capacity l.states ≡ vec_capacity l.fn.states;
  room : vec_capacity l.handles ≡ vec_capacity l.fn.handles;
  few : length l.states.items + length l.handles.items ≡ length l.fn.states.items;
  on : (rest : List _) × (l.fn.states.items ≡ l.states.items ++ rest) × AreOn l.job l.buffer rest l.handles.items;
}

abbrev pub decreases-loop-state : goal.decreases-loop-state
decreases-loop-state g l = goal.left-loop-state g l
