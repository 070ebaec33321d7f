-- Where a line of a script is among the bytes that were read (this project's script language: lines
-- end with LF, and the last line may lack it; a line has at most 9,000 bytes).
use Rattle.std.specs.Prelude.{◌≡◌, ◌<◌, ◌⊎◌, ℕ, List, [], Option, Some, None, length, take, slice_get, true, false}
use Rattle.std.specs.Prelude.{Contains}
use Rattle.std.specs.Io.KnownBytes.{IsAtEnd}
use Rattle.sysv_script.specs.declared.line.TheConstants.{LINE_BYTES}
use Rattle.sysv_script.specs.declared.line_reader.Found.{Found}

-- The text contains no LF.
abbrev pub HasNoEnd : List ℕ → Type 0
HasNoEnd text = Contains text 10 → ⊥

-- The line is the prefix of the text up to its first LF.
pub record IsFirstLine (len : ℕ) (text : List ℕ) : Type 0 where
  pub ends : slice_get text len ≡ Some 10
  pub one_line : HasNoEnd (take len text)

-- The line is the whole text, which is not empty: it contains no LF, and it is too long or nothing
-- follows it.
pub record IsLastLine (len : ℕ) (text : List ℕ) (left : Option (List ℕ)) : Type 0 where
  pub whole : len ≡ length text
  pub filled : 0 < len
  pub one_line : HasNoEnd text
  pub last : LINE_BYTES < len ⊎ IsAtEnd left

-- The found line is the next one of the pending bytes and those that the reader has left.
abbrev pub IsNextLine : Found → List ℕ → Option (List ℕ) → Type 0
IsNextLine found waiting left =
    (found.is_last ≡ false → IsFirstLine found.len waiting) × (found.is_last ≡ true → IsLastLine found.len waiting left)

-- No line is left.
abbrev pub HasNoLine : List ℕ → Option (List ℕ) → Type 0
HasNoLine waiting left = (waiting ≡ []) × IsAtEnd left

-- The next line was found, or no line is left.
abbrev pub FindsLine : Option Found → List ℕ → Option (List ℕ) → Type 0
FindsLine None waiting left = HasNoLine waiting left
FindsLine (Some found) waiting left = IsNextLine found waiting left
