-- The faults of a script (this project's script language): the last line that is printed for a bad
-- line states its number, counted from 1, and a script has at most 1,000,000 lines.
use Rattle.std.specs.Prelude.{◌≡◌, ◌≤◌, ⊤, ℕ, Bool, true, false, List, [], ◌∷◌, ◌++◌, Option, Result, Ok, Err}
use Rattle.std.specs.Io.KnownBytes.{Appends}
use Rattle.sysv_script.specs.Heads.{head_text}
use Rattle.sysv_script.specs.declared.head.Head.TheVariants.{Bad}
use Rattle.sysv_lists.specs.Prefix.{IsPrefixOf}
use Rattle.sysv_script.specs.declared.fault.TheConstants.{SCRIPT_LINES}
use Rattle.sysv_script.specs.declared.fault.ScriptFault.{ScriptFault}
use Rattle.sysv_script.specs.declared.fault.ScriptFault.TheVariants.{Line, Read, Write, NoMemory, Bound}

-- The line that states that the line of this number is bad.
abbrev pub bad_line_text : ℕ → List ℕ
bad_line_text number = head_text (Bad number) ++ 10 ∷ []

-- The text ends with the line that states that the line of this number is bad.
abbrev pub EndsInBadLine : ℕ → List ℕ → Type 0
EndsInBadLine number text = (answers : List ℕ) × (text ≡ answers ++ bad_line_text number)

-- The reader or the writer failed.
abbrev pub IsStreamFault : ScriptFault → Type 0
IsStreamFault Read = ⊤
IsStreamFault Write = ⊤
IsStreamFault (Line n) = ⊥
IsStreamFault NoMemory = ⊥
IsStreamFault Bound = ⊥

-- The fault is that the reader failed.
abbrev pub is_read : ScriptFault → Bool
is_read Read = true
is_read Write = false
is_read (Line n) = false
is_read NoMemory = false
is_read Bound = false

-- The fault is that the writer failed.
abbrev pub is_write : ScriptFault → Bool
is_write Read = false
is_write Write = true
is_write (Line n) = false
is_write NoMemory = false
is_write Bound = false

-- The result is that the reader failed.
abbrev pub is_read_fault : {T : Type 0} → Result T ScriptFault → Bool
is_read_fault (Ok value) = false
is_read_fault (Err fault) = is_read fault

-- The result is that the writer failed.
abbrev pub is_write_fault : {T : Type 0} → Result T ScriptFault → Bool
is_write_fault (Ok value) = false
is_write_fault (Err fault) = is_write fault

-- The line of this number ends the script: it is bad, and the line that states this is composed
-- after the other ones; or memory was refused.
abbrev pub EndsAtLine : ScriptFault → ℕ → (old new : List ℕ) → Type 0
EndsAtLine (Line n) number old new = (n ≡ number) × (new ≡ old ++ bad_line_text number)
EndsAtLine NoMemory number old new = IsPrefixOf new old
EndsAtLine Read number old new = ⊥
EndsAtLine Write number old new = ⊥
EndsAtLine Bound number old new = ⊥

-- The fault is that of a bad line.
abbrev pub IsLineFault : ScriptFault → Type 0
IsLineFault (Line n) = ⊤
IsLineFault NoMemory = ⊥
IsLineFault Read = ⊥
IsLineFault Write = ⊥
IsLineFault Bound = ⊥

-- If the fault is that of a bad line, its number is 1 to 1,000,000, and the last composed line
-- states it.
abbrev pub LeavesBadLine : ScriptFault → List ℕ → Type 0
LeavesBadLine (Line n) composed = (1 ≤ n) × (n ≤ SCRIPT_LINES) × EndsInBadLine n composed
LeavesBadLine NoMemory composed = ⊤
LeavesBadLine Read composed = ⊤
LeavesBadLine Write composed = ⊤
LeavesBadLine Bound composed = ⊤

-- The writer has taken some more bytes, or none.
abbrev pub Grows : Option (List ℕ) → Option (List ℕ) → Type 0
Grows old new = (bytes : List ℕ) × Appends old new bytes

-- If the fault is that of a bad line, its number is 1 to 1,000,000, and the last line that the
-- writer took states it.
abbrev pub TellsBadLine : ScriptFault → Option (List ℕ) → Option (List ℕ) → Type 0
TellsBadLine (Line n) old new =
    (1 ≤ n) × (n ≤ SCRIPT_LINES) × ((answers : List ℕ) × Appends old new (answers ++ bad_line_text n))
TellsBadLine NoMemory old new = ⊤
TellsBadLine Read old new = ⊤
TellsBadLine Write old new = ⊤
TellsBadLine Bound old new = ⊤
