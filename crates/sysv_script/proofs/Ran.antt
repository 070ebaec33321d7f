-- What a line that is understood does; a line that is not understood is bad.
use Rattle.std.proofs.Common.{◌≡◌, ◌+◌, ℕ, inr, Bool, true, false, List, [], ◌∷◌, ◌++◌, length, length-append, sym, ap}
use Rattle.std.proofs.Common.{◌∙◌, arith, refl}
use Rattle.std.specs.Prelude.{Result, Ok, Err, IfOk}
use Rattle.sysv_model.specs.declared.no_memory.NoMemory.{NoMemory}
use Rattle.sysv_script.specs.Said.{Said}
use Rattle.sysv_script.specs.Lines.{Says}
use Rattle.sysv_script.specs.ScriptState.{ScriptState, LineRuns}
use Rattle.sysv_script.specs.ScriptSofar.{LineEnds}
use Rattle.sysv_script.specs.Staged.{IsScriptStateOf}
use Rattle.sysv_script.specs.declared.stage.Stage.{Stage}

none_behind : (before out : List ℕ) → before ++ out ≡ before → out ≡ []
none_behind before [] e = refl
none_behind before (x ∷ out) e =
    let long : length before + length (x ∷ out) ≡ length before = sym (length-append before (x ∷ out)) ∙ ap length e in
    absurd (omega (arith, long))

pub ran : (line : List ℕ) (said : Said) (r : Result Bool NoMemory) (old new : Stage) (before now : List ℕ) →
    Says line said →
    IfOk r (λ understood.
    (s : ScriptState) → IsScriptStateOf s old →
    (after : ScriptState) × (out : List ℕ) × LineRuns s said understood out after × IsScriptStateOf after new
    × (now ≡ before ++ out)) →
    IfOk r (λ understood. understood ≡ false → now ≡ before) →
    IfOk r (λ understood.
    (s : ScriptState) → IsScriptStateOf s old →
    (after : ScriptState) × (out : List ℕ) × LineEnds s line understood out after × IsScriptStateOf after new
    × (now ≡ before ++ out))
ran line said (Err e) old new before now says runs quiet = tt
ran line said (Ok true) old new before now says runs quiet = λ s seen.
    let h = runs s seen in (h.0, h.1, (said, says, h.2), h.3, h.4)
ran line said (Ok false) old new before now says runs quiet = λ s seen.
    let h = runs s seen in
    (h.0, h.1, (inr (said, h.1, h.0, says, h.2), none_behind before h.1 (sym h.4 ∙ quiet refl)), h.3, h.4)
