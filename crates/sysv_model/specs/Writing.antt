-- The bytes that a writer took before it failed, if they are known (this project's word).
use Rattle.std.specs.Prelude.{ℕ, List, Option}
use Rattle.std.specs.Io.KnownBytes.{Appends}
use Rattle.sysv_lists.specs.Prefix.{IsPrefixOf}

-- The known bytes grew by a prefix of these bytes.
abbrev pub AppendsPrefix : Option (List ℕ) → Option (List ℕ) → List ℕ → Type 0
AppendsPrefix old new bytes = (prefix : List ℕ) × IsPrefixOf prefix bytes × Appends old new prefix
