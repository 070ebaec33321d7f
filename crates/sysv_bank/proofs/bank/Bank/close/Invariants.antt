use Rattle.std.proofs.Common.{◌≡◌, ℕ, ◌<◌, ◌≤◌, true, false, length}
use Rattle.std.specs.Prelude.{slice_index_or, vec_capacity}
use mathlib.Core.Option.{some}
use lib.ListN.{get_elem?}
use Rattle.std.specs.Mem.Slots.{slots_len, slots_items, slots_filled}
use Rattle.sysv_gate.specs.Ending.{IsReadAt}
use Rattle.sysv_gate.specs.declared.gate.closing.Closing.{Closing}
use Rattle.sysv_bank.proofs.bank.Bank.close.Given as goal

-- The places before this one were closed.
abbrev pub invariant-loop-place : goal.invariant-loop-place
invariant-loop-place g l = record {
  words : l.closed.words ≡ l.initial.closed.words;
  slots : slots_items l.closed.slots ≡ slots_items l.initial.closed.slots;
  many : slots_len l.closed.slots ≡ slots_len l.initial.closed.slots;
  filled : (k : ℕ) → l.place ≤ k → k < slots_len l.initial.closed.slots →
      slice_index_or (slots_filled l.closed.slots) k false ≡ true;
  empty : (k : ℕ) → k < l.place → slice_index_or (slots_filled l.closed.slots) k false ≡ false;
  read : (place : ℕ) (c : Closing g.row.O.Denot) → get_elem? l.closings.items place ≡ some c →
      IsReadAt l.key.first (slots_items l.initial.closed.words) (slots_items l.initial.closed.slots) place c;
  count : length l.closings.items ≡ l.place;
  room : slots_len l.initial.closed.slots ≤ vec_capacity l.closings;
}
