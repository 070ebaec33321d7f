-- The run of a script that is pending: the text that is left, and what is written and composed
-- (this project's script language).
use Rattle.std.specs.Prelude.{◌≡◌, ◌+◌, ℕ, Bool, true, false, List, [], ◌++◌, Option, Some, Result, Ok, Err, ⊤}
use Rattle.std.specs.Io.KnownBytes.{Appends}
use Rattle.sysv_script.specs.ScriptState.{ScriptState}
use Rattle.sysv_lists.specs.Prefix.{IsPrefixOf}
use Rattle.sysv_script.specs.Staged.{IsScriptStateOf}
use Rattle.sysv_script.specs.declared.stage.Stage.{Stage}
use Rattle.sysv_script.specs.ScriptText.{LineDoes, IsBad, Ending, Whole, BadLine, TooMany, Prints}
use Rattle.sysv_script.specs.Sofar.{PrintsSofar, IsUnended}
use Rattle.sysv_script.specs.declared.fault.ScriptFault.{ScriptFault}
use Rattle.sysv_script.specs.declared.fault.ScriptFault.TheVariants.{Line, Read, Write, NoMemory, Bound}

-- The text is the pending bytes, followed by what the reader has left.
abbrev pub IsText : List ℕ → Option (List ℕ) → List ℕ → Type 0
IsText waiting left text = (behind : List ℕ) × (left ≡ Some behind) × (text ≡ waiting ++ behind)

-- How far a run has come: to an ending, or before a line, with this text left and on this script state.
pub data Halt : Type 0 where
  AtEnd : (ending : Ending) → Halt
  Before : (left : List ℕ) (there : ScriptState) → Halt

-- The text prints this up to there.
abbrev pub Runs : ScriptState → ℕ → List ℕ → List ℕ → Halt → Type 0
Runs s n text out (AtEnd ending) = Prints s n text out ending
Runs s n text out (Before left there) = PrintsSofar s n text out left there

-- A line does what it means, or is bad.
abbrev pub LineEnds : ScriptState → List ℕ → Bool → List ℕ → ScriptState → Type 0
LineEnds s line true out after = LineDoes s line out after
LineEnds s line false out after = IsBad s line × (out ≡ [])

-- The run from a script state over a text, now before the line of this number.
pub record RunsOn (s : ScriptState) (text : List ℕ) (old : Option (List ℕ)) (n : ℕ) (now : Stage) (waiting : List ℕ)
    (left new : Option (List ℕ)) (composed : List ℕ) : Type 0 where
  pub mid : ScriptState
  pub rest : List ℕ
  pub handed : List ℕ
  pub sight : IsScriptStateOf mid now
  pub text_is : IsText waiting left rest
  pub grown : Appends old new handed
  pub prints : (more : List ℕ) (halt : Halt) → Runs mid n rest more halt →
      Runs s 1 text ((handed ++ composed) ++ more) halt

-- All that the text prints was written or is composed.
abbrev pub LeavesAll : ScriptState → List ℕ → Ending → Option (List ℕ) → Option (List ℕ) → List ℕ → Type 0
LeavesAll s text ending old new composed =
    (out : List ℕ) × Prints s 1 text out ending
    × ((handed : List ℕ) × Appends old new handed × (out ≡ handed ++ composed))

-- What was written, followed by what is composed, is a prefix of what the text has printed so far.
abbrev pub LeavesPrefix : ScriptState → List ℕ → Option (List ℕ) → Option (List ℕ) → List ℕ → Type 0
LeavesPrefix s text old new composed =
    (out : List ℕ) × (rest : List ℕ) × (there : ScriptState) × PrintsSofar s 1 text out rest there
    × ((handed : List ℕ) × Appends old new handed × IsPrefixOf (handed ++ composed) out)

-- All that the text has printed before a line was written or is composed. Of the text from that line
-- on, only a part of one line was read.
abbrev pub LeavesRead : ScriptState → List ℕ → Option (List ℕ) → Option (List ℕ) → List ℕ → Option (List ℕ) → Type 0
LeavesRead s text old new composed left =
    (out : List ℕ) × (rest : List ℕ) × (there : ScriptState) × PrintsSofar s 1 text out rest there × IsUnended left rest
    × ((handed : List ℕ) × Appends old new handed × (out ≡ handed ++ composed))

-- What was written and is composed after this fault, with what the reader has left.
abbrev pub LeavesAtFault : ScriptFault → ScriptState → List ℕ → Option (List ℕ) → Option (List ℕ) → List ℕ →
    Option (List ℕ) →
    Type 0
LeavesAtFault (Line n) s text old new composed left = LeavesAll s text (BadLine n) old new composed
LeavesAtFault Bound s text old new composed left = LeavesAll s text TooMany old new composed
LeavesAtFault NoMemory s text old new composed left = LeavesPrefix s text old new composed
LeavesAtFault Read s text old new composed left = LeavesRead s text old new composed left
LeavesAtFault Write s text old new composed left = LeavesPrefix s text old new composed

-- What was written and is composed after this result of a run, with what the reader has left.
abbrev pub Leaves : Result ⊤ ScriptFault → ScriptState → List ℕ → Option (List ℕ) → Option (List ℕ) → List ℕ →
    Option (List ℕ) → Type 0
Leaves (Ok done) s text old new composed left = LeavesAll s text Whole old new composed
Leaves (Err fault) s text old new composed left = LeavesAtFault fault s text old new composed left

-- After one more line, the run is before the line that follows, or at its end.
abbrev pub RunsNext : Result Bool ScriptFault → ScriptState → List ℕ → Option (List ℕ) → ℕ → Stage → List ℕ →
    Option (List ℕ) → Option (List ℕ) → List ℕ → Type 0
RunsNext (Ok true) s text old n now waiting left new composed = RunsOn s text old (n + 1) now waiting left new composed
RunsNext (Ok false) s text old n now waiting left new composed = LeavesAll s text Whole old new composed
RunsNext (Err fault) s text old n now waiting left new composed = LeavesAtFault fault s text old new composed left
