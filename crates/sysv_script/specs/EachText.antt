-- From the opening script state each text prints something as a whole (this project's script language).
use Rattle.std.specs.Prelude.{ℕ, List}
use Rattle.sysv_script.specs.ScriptText.{Ending, ScriptPrints}

-- Each text prints something and has an ending.
abbrev pub EachTextPrints : Type 0
EachTextPrints = (text : List ℕ) → (out : List ℕ) × (ending : Ending) × ScriptPrints text out ending
