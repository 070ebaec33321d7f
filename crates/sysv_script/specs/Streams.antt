-- The bytes that a reader returned and a writer took, if they are known (this project's own terms).
use Rattle.std.specs.Prelude.{◌≡◌, ℕ, List, ◌++◌, Option}
use Rattle.std.specs.Io.KnownBytes.{Appends, Consumes}

-- The writer takes a prefix of the composed bytes, and the rest remains composed.
abbrev pub HandsOn : Option (List ℕ) → List ℕ → Option (List ℕ) → List ℕ → Type 0
HandsOn old waiting new rest = (handed : List ℕ) × (waiting ≡ handed ++ rest) × Appends old new handed

-- The reader returns some bytes, which then follow the pending ones.
abbrev pub TakesIn : Option (List ℕ) → List ℕ → Option (List ℕ) → List ℕ → Type 0
TakesIn left waiting rest more = (read : List ℕ) × (more ≡ waiting ++ read) × Consumes left rest read
