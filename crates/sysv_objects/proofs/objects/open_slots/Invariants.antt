use Rattle.std.proofs.Common.{◌≡◌, ◌≤◌, [], vec_len, vec_capacity}
use Rattle.std.specs.List.{All}
use Rattle.sysv_keys.specs.declared.identifier.TheConstants.{SLOTS}
use Rattle.sysv_queue.specs.Represents.{Represents}
use Rattle.sysv_objects.proofs.objects.open_slots.Given as goal

abbrev pub invariant-loop : goal.invariant-loop
invariant-loop l = record {
  many : vec_len l.slots ≡ l.counter;
  room : SLOTS ≤ vec_capacity l.slots;
  vacant : All (Represents []) l.slots.items;
}
