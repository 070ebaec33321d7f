-- Calls that are made in pieces. A call makes its steps until it waits or is over. A call that
-- waits looks at the count for which it waits, and goes on once the count is at its goal. This
-- project's profile.
use Rattle.std.specs.Prelude.{◌≡◌, ℕ, ℤ, ◌≤◌, ⊤, List, [], length, Result, IfOk}
use Rattle.sysv_model.specs.declared.errno.Errno.{Errno}
use Rattle.sysv_model.specs.declared.limits.TheConstants.{MESSAGE_BYTES}
use Rattle.sysv_queue.specs.Delivery.{Given}
use Rattle.sysv_steps.specs.Call.{Kind, Gets, Sends, Receives}
use Rattle.sysv_steps.specs.declared.state.State.{State as StateKept}
use Rattle.sysv_steps.specs.declared.state.State.TheVariants as state
use Rattle.sysv_steps.specs.declared.receive.ReceiveWait.{ReceiveWait}
use Rattle.sysv_steps.specs.declared.send.SendWait.{SendWait}
use Rattle.sysv_steps.specs.declared.get.GetWait.{GetWait}
use Rattle.sysv_steps.specs.State.{Ending, Phase, State, Wait, Waits, Over}
use Rattle.sysv_steps.specs.Resume.{awaited, goal_of, resume}
use Rattle.sysv_steps.specs.Seen.{get_wait, send_wait, receive_wait, ending_of}
use Rattle.sysv_service.specs.Reading.{Reads}
use Rattle.sysv_service.specs.declared.progress.Progress.{Progress}
use Rattle.sysv_service.specs.declared.progress.Progress.TheVariants as progress
use Rattle.sysv_service.specs.Ran.{Pass, Comes}
use Rattle.sysv_service.specs.Waited.{IsUnmet}
use Rattle.sysv_service.specs.Told.{TellsId, TellsZero, TellsGot}
use Rattle.sysv_service.specs.Delivered.{HasGiven}

-- ---- how far a call has come

-- The state of a call that waits or is over, by what its waits and its result mean.
abbrev pub stopped_at : {kind : Kind} {W T : Type 0} → (W → Wait kind) → (T → Ending) → Progress W (Result T Errno) →
    State kind
stopped_at wait ending (progress.Waits w) = Waits (wait w)
stopped_at wait ending (progress.Over told) = Over (ending_of ending told)

-- What holds of the state of a call holds of a call that waits or is over.
abbrev pub StoppedBy : {S W T : Type 0} → (StateKept S W T → Type 0) → Progress W (Result T Errno) → Type 0
StoppedBy can (progress.Waits w) = can (state.Waits w)
StoppedBy can (progress.Over told) = can (state.Over told)

-- A receive was in the state `from` with the pass `old`. It has made its steps, and waits or is
-- over. If it waits, `out` is empty. If it returns a message, that is the one that it took.
abbrev pub ReceivesOn : (ℕ → Type 0) → State Receives → Pass → Progress ReceiveWait (Result Given Errno) → List ℕ →
    Pass → Type 0
ReceivesOn may from old (progress.Waits w) out new = Comes may from old (Waits (receive_wait w)) new × (out ≡ [])
ReceivesOn may from old (progress.Over told) out new =
    ((ending : Ending) × Comes may from old (Over ending) new × TellsGot ending told out)
    × IfOk told (λ given. HasGiven may from old given new)

-- A send of `text` was in the state `from` with the pass `old`. It has made its steps, and waits or
-- is over.
abbrev pub SendsOn : (ℕ → Type 0) → State Sends → Pass → Progress SendWait (Result ⊤ Errno) → List ℕ → Pass → Type 0
SendsOn may from old (progress.Waits w) text new =
    Comes may from old (Waits (send_wait w text)) new × (length text ≤ MESSAGE_BYTES)
SendsOn may from old (progress.Over told) text new =
    (ending : Ending) × Comes may from old (Over ending) new × TellsZero ending told

-- A get was in the state `from` with the pass `old`. It has made its steps, and waits or is over.
abbrev pub GetsOn : (ℕ → Type 0) → State Gets → Pass → Progress GetWait (Result ℤ Errno) → Pass → Type 0
GetsOn may from old (progress.Waits w) new = Comes may from old (Waits (get_wait w)) new
GetsOn may from old (progress.Over told) new =
    (ending : Ending) × Comes may from old (Over ending) new × TellsId ending told

-- ---- a look at the count

-- The count was read once and found at the goal or above, so the call goes on at this step.
abbrev pub IsReached : {kind : Kind} → Wait kind → Pass → Phase kind → Pass → Type 0
IsReached wait before phase after =
    (value : ℕ) × (goal_of wait ≤ value) × Reads (awaited wait) value before.seats after.seats
    × (after.held ≡ before.held) × (resume wait value ≡ phase)

-- The count was read once and found below the goal, so the call still waits.
abbrev pub StillWaits : {kind : Kind} → Wait kind → Pass → Pass → Type 0
StillWaits wait before after = IsUnmet wait before after × (after.held ≡ before.held)
