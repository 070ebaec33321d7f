-- The stage of the code as a script state of the definitions (this project's script language).
use Rattle.std.specs.Prelude.{◌≡◌}
use Rattle.sysv_core.specs.Seen.{IsSeenAs}
use Rattle.sysv_script.specs.ScriptState.{ScriptState}
use Rattle.sysv_script.specs.declared.stage.Stage.{Stage}

-- The stage is seen as this script state.
pub record IsScriptStateOf (s : ScriptState) (stage : Stage) : Type 0 where
  pub world : IsSeenAs s.world stage.world
  pub creds : s.creds ≡ stage.creds
  pub moment : s.moment ≡ stage.moment
  pub fresh : s.fresh ≡ stage.fresh
