-- A line has one meaning, or it has none (this project's script language).
use Rattle.std.specs.Prelude.{◌≡◌, ◌⊎◌, ℕ, List}
use Rattle.sysv_script.specs.Said.{Said}
use Rattle.sysv_script.specs.Lines.{Says}

-- A line has at most one meaning.
abbrev pub OneSaying : Type 0
OneSaying = (line : List ℕ) (one other : Said) → Says line one → Says line other → one ≡ other

-- A line has a meaning or has none.
abbrev pub EachLineIsDecided : Type 0
EachLineIsDecided = (line : List ℕ) → ((said : Said) × Says line said) ⊎ ((said : Said) → ¬ Says line said)
