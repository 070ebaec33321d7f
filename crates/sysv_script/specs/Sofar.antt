-- What the text of a script has printed before one of its lines (this project's script language).
use Rattle.std.specs.Prelude.{◌≡◌, ◌≤◌, ◌+◌, ℕ, List, [], ◌++◌, Option, Some}
use Rattle.sysv_script.specs.ScriptState.{ScriptState}
use Rattle.sysv_script.specs.ScriptText.{BeginsWith, LineDoes}
use Rattle.sysv_script.specs.Found.{HasNoEnd}
use Rattle.sysv_script.specs.declared.fault.TheConstants.{SCRIPT_LINES}

-- What a text has printed before one of its lines, whichever that is, with the text that is left
-- from that line on, and the script state on which that line runs.
pub data PrintsSofar : ScriptState → ℕ → List ℕ → List ℕ → List ℕ → ScriptState → Type 0 where
  Here : (s : ScriptState) (n : ℕ) (text : List ℕ) → PrintsSofar s n text [] text s
  Past : (s : ScriptState) (n : ℕ) (text line rest out : List ℕ) (after : ScriptState) (more left : List ℕ)
      (there : ScriptState) →
      n ≤ SCRIPT_LINES → BeginsWith text line rest → LineDoes s line out after →
      PrintsSofar after (n + 1) rest more left there → PrintsSofar s n text (out ++ more) left there

-- Of this rest of a text, the reader has returned only a part of one line: all but the bytes that
-- it has left.
abbrev pub IsUnended : Option (List ℕ) → List ℕ → Type 0
IsUnended left rest =
    (part : List ℕ) × (behind : List ℕ) × HasNoEnd part × (left ≡ Some behind) × (rest ≡ part ++ behind)
