-- No call requests a row.
use Rattle.std.proofs.Common.{◌≡◌, ℕ, Bool, true, false, List, refl, sym, ap, ◌∙◌}
use Rattle.std.specs.List.{All}
use Rattle.std.proofs.lemmas.List.Elements.{All-push, All-nil}
use Rattle.sysv_model.specs.History.{ReadRow}
use Rattle.sysv_model.specs.Turn.{Op, OfSlot, asked_by}
use Rattle.sysv_steps.specs.Call.{Kind}
use Rattle.sysv_steps.specs.State.{Phase, State, AtBegin}
use Rattle.sysv_steps.specs.Asks.{asks}
use Rattle.sysv_steps.specs.Played.{Plays, begins, steps, resumes}
use Rattle.sysv_thread_laws.specs.Order.{shows_row, NoCallReadsARow}
use Rattle.sysv_thread_laws.proofs.OrderLeadsOn.{row_form}

abbrev IsQuiet : Op → Type 0
IsQuiet op = shows_row op ≡ false

no_step : {kind : Kind} (phase : Phase kind) (now slot : ℕ) → ¬ (OfSlot slot ReadRow ≡ asks phase now)
no_step (AtBegin get) now slot e = cc
no_step phase now slot e = cc

quiet_step : {kind : Kind} (op : Op) (phase : Phase kind) (now : ℕ) (b : Bool) → asked_by op ≡ asks phase now →
    shows_row op ≡ b → b ≡ false
quiet_step op phase now false asked shows = refl
quiet_step op phase now true asked shows =
    let form = row_form op shows in
    absurd (no_step phase now form.0 (sym (ap asked_by form.2) ∙ asked))

quiet_play : {kind : Kind} {from state : State kind} {ops : List Op} → Plays from ops state → All IsQuiet ops
quiet_play begins = All-nil IsQuiet
quiet_play (steps {ops = ops} {phase = phase} op now after plays asked goes) =
    All-push IsQuiet ops op (quiet_play plays) (quiet_step op phase now (shows_row op) asked refl)
quiet_play (resumes value plays reached) = quiet_play plays

pub no_call_reads_a_row : NoCallReadsARow
no_call_reads_a_row c played = quiet_play played
