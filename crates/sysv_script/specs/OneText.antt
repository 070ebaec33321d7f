-- From a script state whose world is sound, and from a line on, a text prints one thing only: two runs of
-- it print the same and end in the same way, and what it has printed before one of its lines is a
-- prefix of that (this project's script language).
use Rattle.std.specs.Prelude.{◌≡◌, ℕ, List}
use Rattle.sysv_core.specs.Sound.{IsSound}
use Rattle.sysv_lists.specs.Prefix.{IsPrefixOf}
use Rattle.sysv_script.specs.ScriptState.{ScriptState, opening_script_state}
use Rattle.sysv_script.specs.ScriptText.{Ending, Prints}
use Rattle.sysv_script.specs.Sofar.{PrintsSofar}

pub record OneText : Type 0 where
  -- The opening script state is such a script state.
  pub sound : IsSound opening_script_state.world
  pub once : (s : ScriptState) (n : ℕ) (text out other : List ℕ) (ending end : Ending) → IsSound s.world →
      Prints s n text out ending → Prints s n text other end → (out ≡ other) × (ending ≡ end)
  pub sofar : (s : ScriptState) (n : ℕ) (text out left other : List ℕ) (there : ScriptState) (end : Ending) →
      IsSound s.world →
      PrintsSofar s n text out left there → Prints s n text other end → IsPrefixOf out other
