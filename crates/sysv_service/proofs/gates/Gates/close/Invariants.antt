use Rattle.std.proofs.Common.{◌≡◌, ◌≤◌, ◌+◌, ◌++◌, List, length, reverse, vec_capacity}
use Rattle.sysv_keys.specs.declared.identifier.TheConstants.{SLOTS}
use Rattle.sysv_gate.specs.declared.gate.closing.Closing.{Closing}
use Rattle.sysv_bank.specs.Banks.{Each2}
use Rattle.sysv_service.specs.declared.kinds.Gated.{Gated}
use Rattle.sysv_service.proofs.SplitJoinEnd.{GivenBack}
use Rattle.sysv_service.proofs.gates.Gates.close.Given as goal

-- The elements taken from the end so far were moved to the slots, the last one first.
abbrev pub invariant-loop : goal.invariant-loop
invariant-loop l = record {
  back : (done : List (Closing Gated)) × (l.initial.closings.items ≡ l.closings.items ++ done)
      × Each2 GivenBack done (reverse l.slots.items);
  left : length l.closings.items + l.counter ≡ SLOTS + 2;
  many : length l.slots.items ≡ l.counter;
  room : SLOTS ≤ vec_capacity l.slots;
}
