-- What the text of a script prints (this project's script language): its lines are run one by one,
-- each on the script state that the lines before it left, and what they print follows in their order.
use Rattle.std.specs.Prelude.{◌≡◌, ◌<◌, ◌≤◌, ◌+◌, ◌⊎◌, ℕ, true, false, List, [], ◌++◌, length}
use Rattle.sysv_script.specs.Said.{Said}
use Rattle.sysv_script.specs.ScriptState.{ScriptState, opening_script_state, LineRuns}
use Rattle.sysv_script.specs.Lines.{Says}
use Rattle.sysv_words.specs.Words.{SplitsAt}
use Rattle.sysv_script.specs.Found.{HasNoEnd}
use Rattle.sysv_script.specs.Faults.{bad_line_text}
use Rattle.sysv_script.specs.declared.fault.TheConstants.{SCRIPT_LINES}

-- How the run of a text ends: with the text, at a bad line, or after line 1,000,000.
pub data Ending : Type 0 where
  Whole : Ending
  BadLine : (number : ℕ) → Ending
  TooMany : Ending

-- The first line of a text, which ends with LF or is the whole text, and what follows it.
abbrev pub BeginsWith : List ℕ → List ℕ → List ℕ → Type 0
BeginsWith text line rest =
    SplitsAt 10 text line rest ⊎ (HasNoEnd text × (0 < length text) × (line ≡ text) × (rest ≡ []))

-- A line with a meaning does it, and prints this.
abbrev pub LineDoes : ScriptState → List ℕ → List ℕ → ScriptState → Type 0
LineDoes s line out after = (said : Said) × Says line said × LineRuns s said true out after

-- A line is bad if it has no meaning, or one that cannot be done.
abbrev pub IsBad : ScriptState → List ℕ → Type 0
IsBad s line = ((said : Said) → ¬ Says line said)
    ⊎ ((said : Said) × (out : List ℕ) × (after : ScriptState) × Says line said × LineRuns s said false out after)

-- From this script state, and from the line of this number on, the text prints this and ends in this way.
pub data Prints : ScriptState → ℕ → List ℕ → List ℕ → Ending → Type 0 where
  Ends : (s : ScriptState) (n : ℕ) → Prints s n [] [] Whole
  Exceeds : (s : ScriptState) (n : ℕ) (text : List ℕ) → SCRIPT_LINES < n → 0 < length text → Prints s n text [] TooMany
  Fails : (s : ScriptState) (n : ℕ) (text line rest : List ℕ) → n ≤ SCRIPT_LINES → BeginsWith text line rest →
      IsBad s line →
      Prints s n text (bad_line_text n) (BadLine n)
  Goes : (s : ScriptState) (n : ℕ) (text line rest out : List ℕ) (after : ScriptState) (more : List ℕ)
      (ending : Ending) →
      n ≤ SCRIPT_LINES → BeginsWith text line rest → LineDoes s line out after → Prints after (n + 1) rest more ending →
      Prints s n text (out ++ more) ending

-- What a script prints: its text on the opening script state, from line 1 on.
abbrev pub ScriptPrints : List ℕ → List ℕ → Ending → Type 0
ScriptPrints text out ending = Prints opening_script_state 1 text out ending
