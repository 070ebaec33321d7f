-- The place that a selector names in a list of types, which are in the order of acceptance
-- (POSIX.1-2017, msgrcv, DESCRIPTION). The type at this place qualifies. For any type, for an exact
-- type and for every type but one, no earlier place qualifies. For a bound, no place has a lower
-- type, and no earlier place has the same type.
use Rattle.std.specs.Prelude.{◌≡◌, ◌<◌, ◌<ℤ◌, ℕ, ℤ, List, length}
use Rattle.sysv_model.specs.declared.selector.Selector.{Selector}
use Rattle.sysv_model.specs.declared.selector.Selector.TheVariants.{Any, Exactly, Except, UpTo}
use Rattle.sysv_rules.specs.Qualifies.{QualifiesAt, type_at}

-- The place qualifies, and no earlier place does.
abbrev pub IsFirst : Selector → List ℤ → ℕ → Type 0
IsFirst sel types place =
    QualifiesAt sel types place × ((earlier : ℕ) → earlier < place → ¬ QualifiesAt sel types earlier)

-- The first place of the lowest type: no place has a lower type, and no earlier place has the same
-- type.
abbrev pub IsLeast : List ℤ → ℕ → Type 0
IsLeast types place =
    (place < length types)
    × ((other : ℕ) → other < length types → ¬ (type_at types other <ℤ type_at types place))
    × ((earlier : ℕ) → earlier < place → ¬ (type_at types earlier ≡ type_at types place))

-- The selector names this place.
abbrev pub IsNamed : Selector → List ℤ → ℕ → Type 0
IsNamed Any types place = IsFirst Any types place
IsNamed (Exactly asked) types place = IsFirst (Exactly asked) types place
IsNamed (Except refused) types place = IsFirst (Except refused) types place
IsNamed (UpTo bound) types place = QualifiesAt (UpTo bound) types place × IsLeast types place
