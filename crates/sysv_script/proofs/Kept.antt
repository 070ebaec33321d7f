-- What a stage keeps of its script state, and what follows of a result that was examined.
use Rattle.std.proofs.Common.{◌≡◌, sym, subst}
use Rattle.std.specs.Prelude.{⊤, Result, Ok, Err, OnOk, OnErr}
use Rattle.sysv_model.specs.declared.no_memory.NoMemory.{NoMemory}
use Rattle.sysv_script.specs.ScriptState.{ScriptState}
use Rattle.sysv_script.specs.Staged.{IsScriptStateOf}
use Rattle.sysv_script.specs.declared.stage.Stage.{Stage}

-- A stage in which only the spare bodies have changed is seen as before.
pub kept : (s : ScriptState) (old new : Stage) → new ≡ record old { spares = new.spares } → IsScriptStateOf s old →
    IsScriptStateOf s new
kept s old new e seen = subst (IsScriptStateOf s) (sym e)
    (record { world = seen.world; creds = seen.creds; moment = seen.moment; fresh = seen.fresh })

pub on_ok : {P Q : Type 0} (r : Result ⊤ NoMemory) → OnOk r P → (P → Q) → OnOk r Q
on_ok (Ok done) p f = f p
on_ok (Err why) p f = tt

pub on_err : {T E P : Type 0} (r : Result T E) → P → OnErr r P
on_err (Ok x) p = tt
on_err (Err e) p = p
