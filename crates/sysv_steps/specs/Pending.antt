-- A pending call of the code, of any of the six kinds, as a state of the definitions; what it needs
-- of the body that its driver keeps; and what a start or a step of it leads to (this project's
-- profile).
use Rattle.std.specs.Prelude.{◌≡◌, ◌≤◌, ℕ, true, List, [], length, Option, Some, None, ⊤}
use Rattle.std.proofs.Props.{props}
use Rattle.sysv_model.specs.declared.limits.TheConstants.{MESSAGE_BYTES}
use Rattle.sysv_model.specs.Turn.{Ask, Op}
use Rattle.sysv_keys.specs.Identifier.{slot_of_id}
use Rattle.sysv_steps.specs.Call.{Kind, Gets, Sends, Receives, Stats, Sets, Removes}
use Rattle.sysv_steps.specs.State.{Phase, Wait, State, Goes, Waits, Over}
use Rattle.sysv_steps.specs.Resume.{Count, ArrivedOf, FreedOf, Settled, Released}
use Rattle.sysv_steps.specs.Kinds.{gives_back}
use Rattle.sysv_steps.specs.Answered.{outcome_of, text_given}
use Rattle.sysv_steps.specs.Bodies.{CanSend}
use Rattle.sysv_steps.specs.Seen.{get_phase, get_wait, send_phase, send_wait, receive_phase, receive_wait, stat_phase}
use Rattle.sysv_steps.specs.Seen.{set_phase, remove_phase}
use Rattle.sysv_steps.specs.Stepping.{StepsOn}
use Rattle.sysv_steps.specs.declared.pending.Step.{Step}
use Rattle.sysv_steps.specs.declared.pending.Step.TheVariants as step
use Rattle.sysv_steps.specs.declared.pending.Waiting.{Waiting}
use Rattle.sysv_steps.specs.declared.pending.Waiting.TheVariants as waiting
use Rattle.sysv_steps.specs.declared.pending.Pending.{Pending as PendingKept}
use Rattle.sysv_steps.specs.declared.pending.Pending.TheVariants as kept
use Rattle.sysv_steps.specs.declared.pending.Awaited.{Awaited}
use Rattle.sysv_steps.specs.declared.pending.Awaited.TheVariants as awaited
use Rattle.sysv_steps.specs.declared.progress.Progress.{Progress}
use Rattle.sysv_steps.specs.declared.progress.Progress.TheVariants as progress

-- The kind of a pending call, and its state.
pub record Pending : Type 0 where
  pub kind : Kind
  pub state : State kind

-- A call in this state, with its kind.
abbrev pub pending : {kind : Kind} → State kind → Pending
pending {kind} state = record { kind = kind; state = state }

-- The bytes of the body that a call brought, or none if it brought no body.
abbrev pub text_in : Option (List ℕ) → List ℕ
text_in None = []
text_in (Some text) = text

-- ---- steps

-- The kind of the call that is before this step.
abbrev pub kind_at : Step → Kind
kind_at (step.Get s) = Gets
kind_at (step.Send s) = Sends
kind_at (step.Receive s) = Receives
kind_at (step.Stat s) = Stats
kind_at (step.Set s) = Sets
kind_at (step.Remove s) = Removes

-- The step before which it is, if its body has these bytes.
abbrev pub phase_of : (s : Step) → List ℕ → Phase (kind_at s)
phase_of (step.Get s) text = get_phase s
phase_of (step.Send s) text = send_phase s text
phase_of (step.Receive s) text = receive_phase s text
phase_of (step.Stat s) text = stat_phase s
phase_of (step.Set s) text = set_phase s
phase_of (step.Remove s) text = remove_phase s

-- ---- waits

-- The kind of the call that is in this wait.
abbrev pub kind_waiting : Waiting → Kind
kind_waiting (waiting.Get w) = Gets
kind_waiting (waiting.Send w) = Sends
kind_waiting (waiting.Receive w) = Receives

-- Its wait, if its body has these bytes.
abbrev pub wait_of : (w : Waiting) → List ℕ → Wait (kind_waiting w)
wait_of (waiting.Get w) text = get_wait w
wait_of (waiting.Send w) text = send_wait w text
wait_of (waiting.Receive w) text = receive_wait w

-- The count that is meant.
abbrev pub count_meant : Awaited → Count
count_meant awaited.Settled = Settled
count_meant awaited.Released = Released
count_meant (awaited.Freed id) = FreedOf (slot_of_id id)
count_meant (awaited.Arrived id) = ArrivedOf (slot_of_id id)

-- ---- pending calls

-- The kind of a pending call.
abbrev pub pending_kind : PendingKept → Kind
pending_kind (kept.At s) = kind_at s
pending_kind (kept.Waits w) = kind_waiting w

-- Its state, if its body has these bytes.
abbrev pub pending_state : (p : PendingKept) → List ℕ → State (pending_kind p)
pending_state (kept.At s) text = Goes (phase_of s text)
pending_state (kept.Waits w) text = Waits (wait_of w text)

-- ---- bodies

-- The body is what a call before this step needs: a send can still send it, and a receive has one
-- to fill.
abbrev pub CanStep : Step → Option (List ℕ) → Type 0
CanStep (step.Send s) (Some text) = CanSend s text
CanStep (step.Send s) None = ⊥
CanStep (step.Receive s) (Some text) = ⊤
CanStep (step.Receive s) None = ⊥
CanStep s body = ⊤

-- The same of a call in this wait.
abbrev pub CanWait : Waiting → Option (List ℕ) → Type 0
CanWait (waiting.Send w) (Some text) = length text ≤ MESSAGE_BYTES
CanWait (waiting.Send w) None = ⊥
CanWait (waiting.Receive w) (Some text) = ⊤
CanWait (waiting.Receive w) None = ⊥
CanWait w body = ⊤

-- The same of a pending call.
abbrev pub CanGoOn : PendingKept → Option (List ℕ) → Type 0
CanGoOn (kept.At s) body = CanStep s body
CanGoOn (kept.Waits w) body = CanWait w body

-- The call is over, or the body is what it needs.
abbrev pub StillCanGoOn : Progress → Option (List ℕ) → Type 0
StillCanGoOn (progress.On p) body = CanGoOn p body
StillCanGoOn (progress.Over ended) body = ⊤

-- ---- what a start or a step leads to

-- The code's call continues in the state in which the definitions' call is, or both are over: the
-- outcome is that of the ending, and the body of a receive has the bytes of the message, or none.
abbrev pub ComesTo : {kind : Kind} → State kind → Progress → Option (List ℕ) → Type 0
ComesTo state (progress.On p) body = pending state ≡ pending (pending_state p (text_in body))
ComesTo {kind} (Over ending) (progress.Over ended) body =
    (ended.outcome ≡ outcome_of ending) × (ended.receives ≡ gives_back kind)
    × (gives_back kind ≡ true → body ≡ Some (text_given ending))
ComesTo (Goes phase) (progress.Over ended) body = ⊥
ComesTo (Waits wait) (progress.Over ended) body = ⊥

-- One step of a call, whether or not its gate is worn out, and what it leads to.
abbrev pub StepsTo : {P : Type 0} → (P → Op → P → Type 0) → (P → Ask → P → Type 0) → (ℕ → Type 0) → {kind : Kind} →
    Phase kind → P → ℕ → Progress → Option (List ℕ) → P → ℕ → Type 0
StepsTo takes misses may {kind} phase before kept result body after keeps =
    (state : State kind) × StepsOn takes misses may phase before kept state after keeps × ComesTo state result body
