use Rattle.std.proofs.Common.{◌≡◌, ℕ, ◌+◌, ◌-◌, ◌^◌, ◌<◌, ◌≤◌, ◌<ℤ◌, ◌≤ℤ◌, length}
use Rattle.std.specs.List.{AllWithin}
use Rattle.sysv_rules.specs.Digits.{digits}
use Rattle.sysv_messages.specs.declared.entry.Entry.{Entry}
use Rattle.sysv_messages.proofs.index.first_from.Given as goal

-- The number of remaining entries is below a power of 2 whose exponent falls with each entry that
-- is read.
abbrev pub invariant-loop-low : goal.invariant-loop-low
invariant-loop-low g l = record {
  ordered : l.low ≤ l.high;
  within : l.high ≤ length l.by_type.entries.items;
  below : AllWithin (λ (e : Entry). e.mtype <ℤ l.mtype) l.by_type.entries.items 0 l.low;
  above : AllWithin (λ (e : Entry). l.mtype ≤ℤ e.mtype) l.by_type.entries.items l.high (length l.by_type.entries.items);
  few : (left : ℕ) × (l.high - l.low < 2 ^ left)
      × (l.steps + left ≡ l.initial.steps + digits (length l.by_type.entries.items));
  risen : l.initial.steps ≤ l.steps;
  some : l.steps ≡ l.initial.steps → l.high - l.low ≡ length l.by_type.entries.items;
}

abbrev pub decreases-loop-low : goal.decreases-loop-low
decreases-loop-low g l = l.high - l.low
