-- The types that a selector requests (POSIX.1-2017, msgrcv, DESCRIPTION), compared as whole
-- numbers.
use Rattle.std.specs.Prelude.{◌≡◌, ◌≢◌, ◌<◌, ◌≤ℤ◌, ℕ, ℤ, pos, List, length, slice_index_or, ⊤}
use Rattle.sysv_model.specs.declared.selector.Selector.{Selector}
use Rattle.sysv_model.specs.declared.selector.Selector.TheVariants.{Any, Exactly, Except, UpTo}

-- The selector requests this type.
abbrev pub Qualifies : Selector → ℤ → Type 0
Qualifies Any mtype = ⊤
Qualifies (Exactly asked) mtype = mtype ≡ asked
Qualifies (Except refused) mtype = mtype ≢ refused
Qualifies (UpTo bound) mtype = mtype ≤ℤ pos bound

-- The type at a place of the list, counted from 0.
abbrev pub type_at : List ℤ → ℕ → ℤ
type_at types place = slice_index_or types place (pos 0)

-- The place is in the list, and its type qualifies.
abbrev pub QualifiesAt : Selector → List ℤ → ℕ → Type 0
QualifiesAt sel types place = (place < length types) × Qualifies sel (type_at types place)

-- No place of the list qualifies.
abbrev pub NoneQualifies : Selector → List ℤ → Type 0
NoneQualifies sel types = (place : ℕ) → ¬ QualifiesAt sel types place
