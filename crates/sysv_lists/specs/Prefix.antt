-- Prefixes of lists (this project's word).
use Rattle.std.specs.Prelude.{◌≡◌, List, ◌++◌}

-- The whole list begins with this prefix.
abbrev pub IsPrefixOf : {A : Type 0} → List A → List A → Type 0
IsPrefixOf {A} prefix whole = (rest : List A) × (whole ≡ prefix ++ rest)
