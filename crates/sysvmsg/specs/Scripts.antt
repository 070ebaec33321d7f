-- What the program does with a script (this project's programs).
use Rattle.std.specs.Prelude.{ℕ, List, Option, Result, ⊤, IsOk}
use Rattle.std.specs.declared.process.ExitCode.{ExitCode}
use Rattle.sysv_script.specs.declared.fault.ScriptFault.{ScriptFault}
use Rattle.sysv_script.specs.ObeyingRun.{WritesRun}
use Rattle.sysv_script.specs.Written.{WritesScript}
use Rattle.sysv_connect.specs.Ends.{SucceedsIf}

-- A script of this text was run to an end. The writer of its results had taken `old` before and has
-- taken `new` now, and the reader has `left`. They are what the text prints and the results of a run
-- that obeys the laws, as far as that end says. The program succeeds exactly if the script did.
pub record AnswersScript (exit : ExitCode) (text : List ℕ) (old new left : Option (List ℕ)) : Type 0 where
  pub ended : Result ⊤ ScriptFault
  pub prints : WritesScript ended text old new left
  pub obeys : WritesRun ended text old new left
  pub status : SucceedsIf (IsOk ended) exit
