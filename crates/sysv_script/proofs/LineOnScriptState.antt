-- What a line that is understood does on the script state.
use Rattle.std.proofs.Common.{◌≡◌, ℕ, Bool, List, ◌++◌, refl}
use Rattle.std.specs.Prelude.{Result, Ok, Err, IfOk, false}
use Rattle.sysv_model.specs.declared.no_memory.NoMemory.{NoMemory}
use Rattle.sysv_script.specs.SaidBy.{said_of}
use Rattle.sysv_script.specs.declared.line.Line.{Line}
use Rattle.sysv_script.specs.declared.line.Line.TheVariants as line
use Rattle.sysv_script.specs.ScriptState.{ScriptState, begun_script_state, LineActs, LineRuns}
use Rattle.sysv_script.specs.Staged.{IsScriptStateOf}
use Rattle.sysv_script.specs.declared.stage.Stage.{Stage}

-- A line that is neither skipped nor the size of the pool acts on the script state that has begun.
as_run : (l : Line) (s after : ScriptState) (understood : Bool) (out : List ℕ) → (l ≡ line.Skipped → ⊥) →
    ((blocks : ℕ) → l ≡ line.Pool blocks → ⊥) →
    LineActs (begun_script_state s) (said_of l) understood out after → LineRuns s (said_of l) understood out after
as_run line.Skipped s after understood out kept other h = absurd (kept refl)
as_run (line.Pool blocks) s after understood out kept other h = absurd (other blocks refl)
as_run line.Preset s after understood out kept other h = h
as_run (line.Cred actor cred) s after understood out kept other h = h
as_run (line.Moment moment) s after understood out kept other h = h
as_run (line.Start actor call goes) s after understood out kept other h = h
as_run (line.Step actor) s after understood out kept other h = h
as_run (line.Go actor) s after understood out kept other h = h
as_run line.All s after understood out kept other h = h

begun_seen : (s : ScriptState) (old : Stage) → IsScriptStateOf s old →
    IsScriptStateOf (begun_script_state s) (record old { fresh = false })
begun_seen s old seen = record { world = seen.world; creds = seen.creds; moment = seen.moment; fresh = refl }

pub acted : (l : Line) (r : Result Bool NoMemory) (old new : Stage) (before now : List ℕ) → (l ≡ line.Skipped → ⊥) →
    ((blocks : ℕ) → l ≡ line.Pool blocks → ⊥) →
    IfOk r (λ understood.
    (s : ScriptState) → IsScriptStateOf s (record old { fresh = false }) →
    (after : ScriptState) × (out : List ℕ) × LineActs s (said_of l) understood out after × IsScriptStateOf after new
    × (now ≡ before ++ out)) →
    IfOk r (λ understood.
    (s : ScriptState) → IsScriptStateOf s old →
    (after : ScriptState) × (out : List ℕ) × LineRuns s (said_of l) understood out after × IsScriptStateOf after new
    × (now ≡ before ++ out))
acted l (Err e) old new before now kept other runs = tt
acted l (Ok understood) old new before now kept other runs = λ s seen.
    let h = runs (begun_script_state s) (begun_seen s old seen) in
    (h.0, h.1, as_run l s h.0 understood h.1 kept other h.2, h.3, h.4)
