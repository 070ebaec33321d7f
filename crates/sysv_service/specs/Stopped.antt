-- What a stop does: at each slot in order it reads the row, and removes the queue that it finds.
-- This project's profile.
use Rattle.std.specs.Prelude.{◌≡◌, ℕ, suc, ◌+◌, ◌||◌, Bool, true, false, Option, Some, None, Result, Ok, Err}
use Rattle.sysv_model.specs.declared.attributes.Row.{Row}
use Rattle.sysv_model.specs.declared.cred.Cred.{Cred}
use Rattle.sysv_model.specs.declared.errno.Errno.{Errno}
use Rattle.sysv_model.specs.declared.errno.Errno.TheVariants.{EOVERFLOW}
use Rattle.sysv_steps.specs.Call.{MsgctlRmid}
use Rattle.sysv_steps.specs.Begin.{begin}
use Rattle.sysv_steps.specs.State.{Ending, Zero, Refused, Over}
use Rattle.sysv_steps.specs.Stepping.{no_moment}
use Rattle.sysv_service.specs.Ran.{Pass, Comes}
use Rattle.sysv_service.specs.Told.{TellsRow}

-- The user who may remove every queue.
abbrev pub superuser : Cred
superuser = record { uid = 0; gid = 0; pid = 0 }

-- The number of queues that a removal with this ending has removed: one or none.
abbrev pub removed_by : Ending → ℕ
removed_by Zero = 1
removed_by ending = 0

-- Whether the removal found the slot's gate worn out.
abbrev pub is_overflow : Ending → Bool
is_overflow (Refused EOVERFLOW) = true
is_overflow ending = false

-- One slot: the number of queues removed there, and whether its gate was found worn out.
pub data StopsAt (slot : ℕ) (before : Pass) : ℕ → Bool → Pass → Type 0 where
  -- The slot has no queue.
  is_vacant : (after : Pass) → TellsRow slot before (Ok None) after → StopsAt slot before 0 false after
  -- The slot's gate is worn out.
  is_worn : (after : Pass) → TellsRow slot before (Err EOVERFLOW) after → StopsAt slot before 0 true after
  -- The slot has a queue, and its removal was tried.
  tries : (row : Row) (mid : Pass) (ending : Ending) (after : Pass) → TellsRow slot before (Ok (Some row)) mid →
      Comes no_moment (begin superuser (MsgctlRmid row.id) 0) mid (Over ending) after →
      StopsAt slot before (removed_by ending) (is_overflow ending) after

-- The slots below a number, one after the other.
pub data Stops (old : Pass) : ℕ → ℕ → Bool → Pass → Type 0 where
  begins : Stops old 0 0 false old
  goes_on : {slot removed : ℕ} {worn : Bool} {mid : Pass} (here : ℕ) (found : Bool) (new : Pass) →
      Stops old slot removed worn mid → StopsAt slot mid here found new →
      Stops old (suc slot) (removed + here) (worn || found) new

-- The number of messages that the row of a queue states which a removal with this ending has removed.
abbrev pub messages_by : Row → Ending → ℕ
messages_by row Zero = row.qnum
messages_by row ending = 0

-- The number of messages that the row of the queue states which was removed at a slot, or 0.
abbrev pub messages_at : {slot : ℕ} {before : Pass} {here : ℕ} {found : Bool} {after : Pass} →
    StopsAt slot before here found after → ℕ
messages_at (is_vacant after tells) = 0
messages_at (is_worn after tells) = 0
messages_at (tries row mid ending after tells came) = messages_by row ending

-- The number of messages that the rows of the queues state which a stop has removed.
abbrev pub messages_in : {old : Pass} {slots removed : ℕ} {worn : Bool} {new : Pass} →
    Stops old slots removed worn new → ℕ
messages_in begins = 0
messages_in (goes_on here found new run at) = messages_in run + messages_at at

-- The slots below a number, and the number of messages in the queues that were removed there.
pub record StopsSo (old : Pass) (slots removed : ℕ) (worn : Bool) (messages : ℕ) (new : Pass) : Type 0 where
  pub run : Stops old slots removed worn new
  pub counted : messages ≡ messages_in run

-- What the code returns for one slot, as a number of queues removed, and as a number of messages in them.
abbrev pub count_of : Result (Option ℕ) Errno → ℕ
count_of (Ok (Some messages)) = 1
count_of (Ok None) = 0
count_of (Err why) = 0

abbrev pub messages_of : Result (Option ℕ) Errno → ℕ
messages_of (Ok (Some messages)) = messages
messages_of (Ok None) = 0
messages_of (Err why) = 0

-- Whether the code returns an error for one slot.
abbrev pub is_refused : Result (Option ℕ) Errno → Bool
is_refused (Ok found) = false
is_refused (Err why) = true

-- What was done at one slot is what the code returns for it.
abbrev pub StopsSlot : ℕ → Pass → Result (Option ℕ) Errno → Pass → Type 0
StopsSlot slot before result after =
    (at : StopsAt slot before (count_of result) (is_refused result) after) × (messages_at at ≡ messages_of result)

-- The number of queues removed is returned, unless the gate of a slot was found worn out. Then
-- EOVERFLOW is returned.
abbrev pub TellsStop : ℕ → Bool → Result ℕ Errno → Type 0
TellsStop removed false (Ok told) = told ≡ removed
TellsStop removed true (Err why) = why ≡ EOVERFLOW
TellsStop removed worn result = ⊥
