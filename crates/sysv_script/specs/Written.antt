-- What a writer took of what a script prints, by the way in which its run ended (this project's
-- script language).
use Rattle.std.specs.Prelude.{ℕ, List, Option, Result, Ok, Err, ⊤}
use Rattle.std.specs.Io.KnownBytes.{Appends}
use Rattle.sysv_model.specs.Writing.{AppendsPrefix}
use Rattle.sysv_script.specs.declared.fault.ScriptFault.{ScriptFault}
use Rattle.sysv_script.specs.declared.fault.ScriptFault.TheVariants.{Line, Read, Write, NoMemory, Bound}
use Rattle.sysv_script.specs.ScriptState.{ScriptState, opening_script_state}
use Rattle.sysv_script.specs.ScriptText.{Ending, Whole, BadLine, TooMany, ScriptPrints}
use Rattle.sysv_script.specs.Sofar.{PrintsSofar, IsUnended}

-- The script ends in this way, and the writer took all that it prints.
abbrev pub WritesAll : List ℕ → Ending → Option (List ℕ) → Option (List ℕ) → Type 0
WritesAll text ending old new = (out : List ℕ) × ScriptPrints text out ending × Appends old new out

-- The writer took a prefix of all that the script prints.
abbrev pub WritesPrefix : List ℕ → Option (List ℕ) → Option (List ℕ) → Type 0
WritesPrefix text old new =
    (ending : Ending) × (out : List ℕ) × ScriptPrints text out ending × AppendsPrefix old new out

-- The writer took all that the script prints before one of its lines. Of the text from that line
-- on, the reader returned only a part of one line.
abbrev pub WritesRead : List ℕ → Option (List ℕ) → Option (List ℕ) → Option (List ℕ) → Type 0
WritesRead text old new left =
    (out : List ℕ) × (rest : List ℕ) × (there : ScriptState) × PrintsSofar opening_script_state 1 text out rest there
    × IsUnended left rest × Appends old new out

-- What the writer took, if the run of the text ended with this fault, with what the reader has left.
abbrev pub WritesAtFault : ScriptFault → List ℕ → Option (List ℕ) → Option (List ℕ) → Option (List ℕ) → Type 0
WritesAtFault (Line n) text old new left = WritesAll text (BadLine n) old new
WritesAtFault Bound text old new left = WritesAll text TooMany old new
WritesAtFault Read text old new left = WritesRead text old new left × WritesPrefix text old new
WritesAtFault Write text old new left = WritesPrefix text old new
WritesAtFault NoMemory text old new left = WritesPrefix text old new

-- What the writer took, by the result of the run, with what the reader has left.
abbrev pub WritesScript : Result ⊤ ScriptFault → List ℕ → Option (List ℕ) → Option (List ℕ) → Option (List ℕ) → Type 0
WritesScript (Ok done) text old new left = WritesAll text Whole old new
WritesScript (Err fault) text old new left = WritesAtFault fault text old new left
