-- What a script writes, as a run of its world (this project's script language): its lines lead by a
-- list of transitions to a world that obeys the laws of the headline, and what is written are the
-- results of that run.
use Rattle.std.specs.Prelude.{◌≡◌, ℕ, List, ◌++◌, Option, Result, Ok, Err, ⊤}
use Rattle.std.specs.Io.KnownBytes.{Appends}
use Rattle.sysv_model.specs.Writing.{AppendsPrefix}
use Rattle.sysv_core.specs.Headline.{Obeys}
use Rattle.sysv_core.specs.Run.{Leads}
use Rattle.sysv_core.specs.World.{World, Opening, Transition, Response, opening}
use Rattle.sysv_script.specs.declared.fault.ScriptFault.{ScriptFault}
use Rattle.sysv_script.specs.declared.fault.ScriptFault.TheVariants.{Line, Read, Write, NoMemory, Bound}
use Rattle.sysv_script.specs.Results.{HasResults}
use Rattle.sysv_script.specs.ScriptState.{ScriptState, opening_script_state}
use Rattle.sysv_script.specs.ScriptRun.{last_text}
use Rattle.sysv_script.specs.ScriptText.{Ending, Whole, BadLine, TooMany, ScriptPrints}
use Rattle.sysv_script.specs.Sofar.{PrintsSofar, IsUnended}
use Rattle.sysv_script.specs.Written.{WritesScript}

-- A run leads to the world from an opening, the world obeys the laws of the headline, and the text
-- has the results of its calls, and no other results.
pub record IsOfObeyingRun (out : List ℕ) (w : World) : Type 0 where
  pub opened : Opening
  pub list : List Transition
  pub given : List Response
  pub leads : Leads (opening opened) list given w
  pub obeys : Obeys opened w given
  pub results : HasResults given out

-- The script prints this and ends in this way. But for a last line that states that a line is bad,
-- it prints the results of a run that obeys the laws.
pub record PrintsRun (text out : List ℕ) (ending : Ending) : Type 0 where
  pub prints : ScriptPrints text out ending
  pub told : List ℕ
  pub w : World
  pub whole : out ≡ told ++ last_text ending
  pub run : IsOfObeyingRun told w

-- The script ends in this way, and the writer took all results of its run.
abbrev pub WritesRunWhole : List ℕ → Ending → Option (List ℕ) → Option (List ℕ) → Type 0
WritesRunWhole text ending old new = (out : List ℕ) × PrintsRun text out ending × Appends old new out

-- The writer took a prefix of the results of its run.
abbrev pub WritesRunPrefix : List ℕ → Option (List ℕ) → Option (List ℕ) → Type 0
WritesRunPrefix text old new =
    (ending : Ending) × (out : List ℕ) × PrintsRun text out ending × AppendsPrefix old new out

-- The writer took all results of the run up to one of the lines. Of the text from that line on, the
-- reader returned only a part of one line.
abbrev pub WritesRunSofar : List ℕ → Option (List ℕ) → Option (List ℕ) → Option (List ℕ) → Type 0
WritesRunSofar text old new left =
    (out : List ℕ) × (rest : List ℕ) × (there : ScriptState) × PrintsSofar opening_script_state 1 text out rest there
    × IsUnended left rest × IsOfObeyingRun out there.world × Appends old new out

-- What the writer took of the results, if the script ended with this fault, with what the reader has
-- left.
abbrev pub WritesRunAtFault : ScriptFault → List ℕ → Option (List ℕ) → Option (List ℕ) → Option (List ℕ) → Type 0
WritesRunAtFault (Line n) text old new left = WritesRunWhole text (BadLine n) old new
WritesRunAtFault Bound text old new left = WritesRunWhole text TooMany old new
WritesRunAtFault Read text old new left = WritesRunSofar text old new left × WritesRunPrefix text old new
WritesRunAtFault Write text old new left = WritesRunPrefix text old new
WritesRunAtFault NoMemory text old new left = WritesRunPrefix text old new

-- What the writer took of the results, by the result of the script, with what the reader has left.
abbrev pub WritesRun : Result ⊤ ScriptFault → List ℕ → Option (List ℕ) → Option (List ℕ) → Option (List ℕ) → Type 0
WritesRun (Ok done) text old new left = WritesRunWhole text Whole old new
WritesRun (Err fault) text old new left = WritesRunAtFault fault text old new left

-- What a script writes are the results of a run that obeys the laws.
abbrev pub EachScriptObeys : Type 0
EachScriptObeys = (result : Result ⊤ ScriptFault) (text : List ℕ) (old new left : Option (List ℕ)) →
    WritesScript result text old new left → WritesRun result text old new left
