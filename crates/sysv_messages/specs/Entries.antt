-- The entries of an index in two orders (this profile's): by acceptance number, and by type and
-- then by number.
use Rattle.std.specs.Prelude.{◌≡◌, ◌≢◌, ℕ, ℤ, ◌<◌, ◌≤◌, ◌<ℤ◌, ◌≤ℤ◌, ◌⊎◌, List, length, map}
use Rattle.std.specs.List.{All, AllPairs, AllWithin, Contains, insert}
use Rattle.sysv_model.specs.declared.limits.TheConstants.{QUEUE_MESSAGES}
use Rattle.sysv_messages.specs.declared.entry.Entry.{Entry}

-- The types of the entries, in their order.
abbrev pub types_of : List Entry → List ℤ
types_of entries = map (λ (e : Entry). e.mtype) entries

-- Entry a is before entry b: its type is lower, or the types are equal and its number is lower.
abbrev pub IsBefore : Entry → Entry → Type 0
IsBefore a b = (a.mtype <ℤ b.mtype) ⊎ ((a.mtype ≡ b.mtype) × (a.number < b.number))

-- Each entry has a lower number than all entries after it.
abbrev pub NumbersRise : List Entry → Type 0
NumbersRise entries = AllPairs (λ (a b : Entry). a.number < b.number) entries

-- No two entries have the same number.
abbrev pub NumbersDiffer : List Entry → Type 0
NumbersDiffer entries = AllPairs (λ (a b : Entry). a.number ≢ b.number) entries

-- Both lists have the same entries, each list in its own order and each entry once.
pub record IsIndex (entries by_type : List Entry) : Type 0 where
  pub rising : NumbersRise entries
  pub sorted : AllPairs IsBefore by_type
  pub held : All (Contains by_type) entries
  pub known : All (Contains entries) by_type
  pub same : length by_type ≡ length entries
  pub few : length entries ≤ QUEUE_MESSAGES

-- The new list is the old one with the entry inserted after the entries of its type or lower ones
-- and before those of higher types.
pub record IsInserted (old : List Entry) (e : Entry) (new : List Entry) : Type 0 where
  pub at : ℕ
  pub within : at ≤ length old
  pub is : new ≡ insert old at e
  pub below : AllWithin (λ (other : Entry). other.mtype ≤ℤ e.mtype) old 0 at
  pub above : AllWithin (λ (other : Entry). e.mtype <ℤ other.mtype) old at (length old)
