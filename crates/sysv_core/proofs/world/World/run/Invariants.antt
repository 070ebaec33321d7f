use Rattle.std.proofs.Common.{◌≡◌, ◌≤◌, ◌+◌, ◌++◌, length, vec_len, vec_capacity}
use Rattle.sysv_core.specs.Tallying.{messages_in}
use Rattle.sysv_core.proofs.Runs.{Pending}
use Rattle.sysv_core.proofs.world.World.run.Given as goal

-- The events so far have happened, and there is room for the answers to those that are left.
abbrev pub invariant-loop-event : goal.invariant-loop-event
invariant-loop-event l = record {
  split : l.fn.events.items ≡ l.yielded ++ l.event-iterator.rest.items;
  few : vec_len l.answers ≤ length l.yielded;
  room : length l.fn.events.items ≤ vec_capacity l.answers;
  written : l.self.tally.written ≡ l.fn.self.tally.written + messages_in l.answers.items;
  lost : l.self.tally.lost ≡ l.fn.self.tally.lost;
  going : Pending l.fn.self l.self l.yielded l.answers.items;
}
