use Rattle.std.proofs.Common.{◌≡◌, ◌+◌, ◌*◌, ◌^◌, ◌≤◌, length, reverse}
use Rattle.sysv_keys.specs.declared.identifier.TheConstants.{SLOTS}
use Rattle.sysv_service.specs.Closing.{all_waiting, all_held, with_slots}
use Rattle.sysv_service.proofs.closing.end_slots.Given as goal

-- The counts so far and those of the slots that are left add up to the counts of all slots. The
-- slots that are left are in reverse order.
abbrev pub invariant-loop-slot : goal.invariant-loop-slot
invariant-loop-slot l = record {
  waiting : l.waiting + all_waiting (reverse l.slots.items) ≡ all_waiting l.fn.slots.items;
  held : l.held + all_held (reverse l.slots.items) ≡ all_held l.fn.slots.items;
  pool : with_slots l.pool (reverse l.slots.items) ≡ with_slots l.fn.pool l.fn.slots.items;
  small : l.waiting + 2 ^ 32 * length l.slots.items ≤ 2 ^ 32 * SLOTS;
  few : l.held + length l.slots.items ≤ SLOTS;
}

-- Each round leaves one slot fewer.
abbrev pub decreases-loop-slot : goal.decreases-loop-slot
decreases-loop-slot l = goal.left-loop-slot l
