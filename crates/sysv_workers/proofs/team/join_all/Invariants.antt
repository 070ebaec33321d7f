use Rattle.std.proofs.Common.{◌≡◌, ◌+◌, ◌≤◌, List, ◌++◌, length, vec_len, vec_capacity}
use Rattle.sysv_workers.specs.Teams.{AreOn}
use Rattle.sysv_workers.specs.Doing.{Gathered}
use Rattle.sysv_workers.specs.Parts.{Part}
use Rattle.sysv_workers.proofs.RunningThreads.{Joining}
use Rattle.sysv_workers.proofs.team.join_all.Given as goal

-- The threads at the end of the list were joined.
abbrev pub invariant-loop-handle : goal.invariant-loop-handle
invariant-loop-handle g l = record {
  buffer : l.seat.buffer ≡ l.buffer;
  on : (job : _) × (left : List _) × AreOn job l.buffer left l.handles.items;
  room : vec_len l.states + length l.handles.items ≤ vec_capacity l.states;
  grown : (more : List _) × (l.seat.seen ≡ l.fn.seat.seen ++ more);
  gathered : (job : _) (others : List _) (parts : List (Part _ _)) (rest : List _)
      → AreOn job l.buffer rest l.fn.handles.items
      → Gathered (g.J.Job.runs job) (g.J.Job.fits job) others parts l.fn.seat l.fn.states.items l.fn.tally.ran
      l.fn.tally.ended
      → Joining g.J.Job.runs g.J.Job.fits l.buffer job others parts rest l.handles.items l.seat l.states.items
      l.tally.ran l.tally.ended;
}

abbrev pub decreases-loop-handle : goal.decreases-loop-handle
decreases-loop-handle g l = goal.left-loop-handle g l
