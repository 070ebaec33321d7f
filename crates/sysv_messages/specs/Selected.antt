-- The message that a selector names among the entries of an index (POSIX.1-2017, msgrcv).
use Rattle.std.specs.Prelude.{◌≡◌, ◌≢◌, ℕ, ℤ, ◌<ℤ◌, List, Some, slice_get}
use Rattle.std.specs.List.{All, AllWithin}
use Rattle.sysv_model.specs.declared.selector.Selector.{Selector}
use Rattle.sysv_rules.specs.Qualifies.{Qualifies}
use Rattle.sysv_rules.specs.Named.{IsNamed}
use Rattle.sysv_messages.specs.declared.entry.Entry.{Entry}
use Rattle.sysv_messages.specs.Entries.{types_of}

-- The entry is at the position that the selector names.
pub record IsSelected (sel : Selector) (entries : List Entry) (found : Entry) : Type 0 where
  pub position : ℕ
  pub there : slice_get entries position ≡ Some found
  pub named : IsNamed sel (types_of entries) position

-- The entry is the first of the entries by type, and it qualifies.
pub record IsLowest (sel : Selector) (by_type : List Entry) (found : Entry) : Type 0 where
  pub there : slice_get by_type 0 ≡ Some found
  pub low : Qualifies sel found.mtype

-- The first of the entries by type, if there is one, does not qualify.
abbrev pub NoneLow : Selector → List Entry → Type 0
NoneLow sel by_type = (e : Entry) → slice_get by_type 0 ≡ Some e → ¬ Qualifies sel e.mtype

-- The entry is the first of this type among the entries by type.
pub record IsFirstOf (mtype : ℤ) (by_type : List Entry) (found : Entry) : Type 0 where
  pub position : ℕ
  pub there : slice_get by_type position ≡ Some found
  pub asked : found.mtype ≡ mtype
  pub below : AllWithin (λ (other : Entry). other.mtype <ℤ mtype) by_type 0 position

-- No entry has this type.
abbrev pub NoneOf : ℤ → List Entry → Type 0
NoneOf mtype by_type = All (λ (e : Entry). e.mtype ≢ mtype) by_type
