-- Clients that save and load files of queues (this project's programs), however they ended.
use Rattle.std.specs.Prelude.{◌≡◌, ⊤, ℕ, List, [], Option, Result, Ok, not}
use Rattle.std.specs.declared.process.ExitCode.{ExitCode}
use Rattle.sysv_clients.specs.declared.clearing.Refusal.{Refusal}
use Rattle.sysv_clients.specs.declared.holding.Unheld.{Unheld}
use Rattle.sysv_clients.specs.declared.loading.Loading.{Loading as ALoad}
use Rattle.sysv_clients.specs.declared.loading.Unloaded.{Unloaded}
use Rattle.sysv_clients.specs.Loading.{LoadsAhead}
use Rattle.sysv_clients.specs.declared.saving.Saving.{Saving as ASave}
use Rattle.sysv_clients.specs.Saving.{SavesAll, SyncsAll}
use Rattle.sysv_connect.specs.declared.loads.Loading.{Loading}
use Rattle.sysv_connect.specs.declared.saves.Saving.{Saving}
use Rattle.sysv_connect.specs.Ends.{SucceedsIf}
use Rattle.sysv_model.specs.declared.cred.Cred.{Cred}

-- The save of a client with these credentials and these options.
abbrev pub saving_of : Cred → Saving → ASave
saving_of cred saving =
    record {
      cred = cred;
      key = saving.key;
      mtype = saving.mtype;
      except = saving.except;
      syncs = not saving.nosync;
    }

-- A client saved queues, and the program succeeds exactly if that had no fault and no queue was refused.
abbrev pub Saves : ASave → ExitCode → (left rest taken more shown after synced : Option (List ℕ)) → Type 0
Saves saving exit left rest taken more shown after synced =
    (ended : Result ⊤ Unheld) × (refusals : List Refusal)
    × SavesAll saving ended left rest taken more shown after [] refusals × SyncsAll saving ended shown after synced
    × SucceedsIf ((ended ≡ Ok tt) × (refusals ≡ [])) exit

-- The load of a client with these credentials and these options.
abbrev pub loading_of : Cred → Loading → ALoad
loading_of cred loading =
    record {
      cred = cred;
      from = loading.from;
      into = loading.into;
      adopt = loading.adopt;
      nowait = loading.nowait;
    }

-- A client loaded its input, and the program succeeds exactly if that had no fault.
abbrev pub Loads : ALoad → ExitCode → (left rest taken more fed unfed : Option (List ℕ)) → Type 0
Loads loading exit left rest taken more fed unfed =
    (ended : Result ⊤ Unloaded) × LoadsAhead loading ended left rest taken more fed unfed
    × SucceedsIf (ended ≡ Ok tt) exit
