-- The lines of an input (this project's programs): each ends with an LF, which is not part of it,
-- and the last may lack it.
use Rattle.std.specs.Prelude.{◌≡◌, ◌≢◌, ◌≤◌, ◌+◌, ◌⊎◌, ⊤, ℕ, Bool, true, false, List, [], ◌∷◌, ◌++◌}
use Rattle.std.specs.Prelude.{length, All, Option, None, Some, Result, Ok, Err}
use Rattle.std.specs.Io.KnownBytes.{Consumes, IsAtEnd}
use Rattle.std.specs.IoError.{error_kind}
use Rattle.std.specs.declared.io.ErrorKind.{ErrorKind}
use Rattle.sysv_clients.specs.declared.input_lines.Fetched.{Fetched}
use Rattle.sysv_clients.specs.declared.input_lines.Fetched.TheVariants.{Line, Last, Nothing}
use Rattle.sysv_clients.specs.declared.sending.Unsent.{Unsent}
use Rattle.sysv_clients.specs.declared.sending.Unsent.TheVariants.{Fault, Cut, Long, NoObject, Memory, Many, Input}

-- No byte is an LF.
abbrev pub HasNoEnd : List ℕ → Type 0
HasNoEnd text = All (λ byte. byte ≢ 10) text

-- A line may be this one, with at most this number of bytes.
abbrev pub IsText : ℕ → List ℕ → Type 0
IsText most text = HasNoEnd text × (length text ≤ most)

-- The next line is this one, with an LF, or as the last one without.
abbrev pub IsNext : ℕ → List ℕ → (left rest : Option (List ℕ)) → Type 0
IsNext most text left rest =
    IsText most text × (Consumes left rest (text ++ 10 ∷ []) ⊎ ((text ≢ []) × Consumes left rest text × IsAtEnd rest))

-- The next line begins with these bytes, and they are more than a line may have.
abbrev pub IsTooLong : ℕ → List ℕ → (left rest : Option (List ℕ)) → Type 0
IsTooLong most text left rest = HasNoEnd text × (length text ≡ most + 1) × Consumes left rest text

-- The input has no further line.
abbrev pub HasNone : (left rest : Option (List ℕ)) → Type 0
HasNone left rest = Consumes left rest [] × IsAtEnd rest

-- What was read as the next byte.
abbrev pub ReadsByte : Option ℕ → (left rest : Option (List ℕ)) → Type 0
ReadsByte (Some byte) left rest = Consumes left rest (byte ∷ [])
ReadsByte None left rest = HasNone left rest

-- Nothing was read, since the input is at its end.
abbrev pub is_nothing : Fetched → Bool
is_nothing Nothing = true
is_nothing Line = false
is_nothing Last = false

-- A line was read that ended with an LF.
abbrev pub is_line : Fetched → Bool
is_line Line = true
is_line Last = false
is_line Nothing = false

-- Bytes moved to the end of a line, up to an LF (true), or as many as there were or as a line that
-- is too long has (false).
abbrev pub Gives : ℕ → Bool → (bytes left line more : List ℕ) → Type 0
Gives most true bytes left line more =
    (text : List ℕ) × HasNoEnd text × (length line + length text ≤ most) × (bytes ≡ text ++ 10 ∷ left)
    × (more ≡ line ++ text)
Gives most false bytes left line more =
    (text : List ℕ) × HasNoEnd text × (1 ≤ length text) × (length line + length text ≤ most + 1)
    × (bytes ≡ text ++ left) × (more ≡ line ++ text)

-- What was read of an input that is at its end, after these bytes of a line.
abbrev pub Ends : Fetched → List ℕ → Type 0
Ends Nothing line = line ≡ []
Ends Last line = line ≢ []
Ends Line line = ⊥

-- What was read as the next line, which has at most this number of bytes, after this number of lines.
abbrev pub Fetches : (most lines : ℕ) → Result Fetched Unsent → (left rest : Option (List ℕ)) → List ℕ → Type 0
Fetches most lines (Ok Line) left rest text = IsText most text × Consumes left rest (text ++ 10 ∷ [])
Fetches most lines (Ok Last) left rest text = IsText most text × (text ≢ []) × Consumes left rest text × IsAtEnd rest
Fetches most lines (Ok Nothing) left rest text = (text ≡ []) × HasNone left rest
Fetches most lines (Err (Long before)) left rest text = (before ≡ lines) × IsTooLong most text left rest
Fetches most lines (Err (Input why)) left rest text = ⊤
Fetches most lines (Err (NoObject before)) left rest text = ⊥
Fetches most lines (Err (Memory before)) left rest text = ⊥
Fetches most lines (Err Many) left rest text = ⊥
Fetches most lines (Err (Fault why)) left rest text = ⊥
Fetches most lines (Err (Cut cut)) left rest text = ⊥

-- If the input could not be read, its last read failed, with an error of this kind.
abbrev pub FailsBy : {T : Type 0} → Result T Unsent → Option ErrorKind → Type 0
FailsBy (Err (Input why)) failure = failure ≡ Some (error_kind why)
FailsBy (Err (Long before)) failure = ⊤
FailsBy (Err (NoObject before)) failure = ⊤
FailsBy (Err (Memory before)) failure = ⊤
FailsBy (Err Many) failure = ⊤
FailsBy (Err (Fault why)) failure = ⊤
FailsBy (Err (Cut cut)) failure = ⊤
FailsBy (Ok done) failure = ⊤
