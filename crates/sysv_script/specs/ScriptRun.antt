-- Each script is a run of its world (this project's script language): a run leads from the world
-- before a line to the world after it, and the line prints the results of the calls that end on the
-- way, in their order, and no other results.
use Rattle.std.specs.Prelude.{◌≡◌, ◌⊎◌, ℕ, Bool, true, List, [], ◌++◌}
use Rattle.sysv_core.specs.Run.{Leads}
use Rattle.sysv_core.specs.World.{World, Opening, Transition, Response, opening}
use Rattle.sysv_script.specs.Said.{Said}
use Rattle.sysv_script.specs.ScriptState.{ScriptState, opening_script_state, opening_world, LineRuns}
use Rattle.sysv_script.specs.Faults.{bad_line_text}
use Rattle.sysv_script.specs.ScriptText.{Ending, Whole, BadLine, TooMany, ScriptPrints}
use Rattle.sysv_script.specs.Sofar.{PrintsSofar}
use Rattle.sysv_script.specs.Results.{LeadsPrinting, IsOfRunPrinting}

-- A run leads to the world from an opening.
abbrev pub IsOfRun : World → Type 0
IsOfRun w = (o : Opening) × (list : List Transition) × (given : List Response) × Leads (opening o) list given w

-- A run leads from the world of the script state to this one, and the text has the results of its calls.
-- If every line so far was skipped, the run may lead from a new world instead, whose pool has
-- another size.
abbrev pub FollowsPrinting : ScriptState → List ℕ → World → Type 0
FollowsPrinting s out after = LeadsPrinting s.world out after
    ⊎ ((s.fresh ≡ true) × ((blocks : ℕ) × LeadsPrinting (opening_world blocks) out after))

-- What a script prints last, by the way in which it ends.
abbrev pub last_text : Ending → List ℕ
last_text Whole = []
last_text (BadLine number) = bad_line_text number
last_text TooMany = []

pub record EachScriptIsARun : Type 0 where
  -- A script begins on the world of a run.
  pub opens : IsOfRun opening_script_state.world
  -- A line leads from the world of a run to the world of a run, also if the line is bad, and prints
  -- the results of the calls that end at it.
  pub line : (s : ScriptState) (said : Said) (understood : Bool) (out : List ℕ) (after : ScriptState) →
      LineRuns s said understood out after → IsOfRun s.world →
      IsOfRun after.world × FollowsPrinting s out after.world
  -- So does each text, up to each of its lines.
  pub text : (s : ScriptState) (n : ℕ) (text out left : List ℕ) (there : ScriptState) →
      PrintsSofar s n text out left there →
      IsOfRun s.world → IsOfRun there.world × FollowsPrinting s out there.world
  -- What a script has printed before one of its lines has the results of one run, which leads from
  -- an opening to the world before that line.
  pub sofar : (text out left : List ℕ) (there : ScriptState) → PrintsSofar opening_script_state 1 text out left there →
      IsOfRunPrinting out there.world
  -- So has all that it prints, up to the line that states that a line is bad.
  pub whole : (text out : List ℕ) (ending : Ending) → ScriptPrints text out ending →
      (told : List ℕ) × (w : World) × (out ≡ told ++ last_text ending) × IsOfRunPrinting told w
