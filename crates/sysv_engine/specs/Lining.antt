-- In which line of its worker a parked call is (this project's profile).
use Rattle.std.specs.Prelude.{◌≡◌, ◌≤◌, ◌⊎◌, ℕ, ℤ, List, Option, None, Some, if◌then◌else◌, length, option_map}
use Rattle.std.specs.Prelude.{slice_get}
use Rattle.sysv_keys.specs.declared.identifier.TheConstants.{SLOTS}
use Rattle.sysv_model.specs.declared.cred.Cred.{Cred}
use Rattle.sysv_parking.specs.declared.key.Caller.{Caller}
use Rattle.sysv_parking.specs.declared.key.Key.{Key}
use Rattle.sysv_parking.specs.declared.key.Key.TheVariants as keys
use Rattle.sysv_parking.specs.declared.key.TheConstants.{BLOCKS_WORD, SETTLED_WORD}
use Rattle.sysv_parking.specs.Due.{by_all}
use Rattle.sysv_parking.specs.Keys.{bounded_sum}
use Rattle.sysv_parking.specs.Parking.{Parking, key_at, why_at}
use Rattle.sysv_seats.specs.declared.parked.Parked.{Parked}
use Rattle.sysv_steps.specs.declared.pending.Waiting.{Waiting}
use Rattle.sysv_steps.specs.declared.pending.Waiting.TheVariants.{Send, Receive, Get}
use Rattle.sysv_seats.specs.GivingBack.{held_length}
use Rattle.sysv_seats.specs.Holding.{Message}
use Rattle.sysv_seats.specs.Sits.{Sitting, is_back_parked, parked_bytes, parked_wait}
use Rattle.sysv_steps.specs.declared.send.SendWait.{SendWait}
use Rattle.sysv_steps.specs.declared.send.SendWait.TheVariants.{Room, Blocks}
use Rattle.sysv_steps.specs.Resume.{Count, ArrivedOf, FreedOf, Released, Settled}
use Rattle.sysv_engine.specs.Places.{Seated}

-- ---- what a call waits for

-- Who calls at the queue of this identifier.
abbrev pub caller_at : ℤ → Cred → Caller
caller_at id cred = record { id = id; uid = cred.uid; gid = cred.gid }

-- What this call waits for, whose frame has this length.
abbrev pub key_for : Waiting → ℕ → Key
key_for (Send (Room above send)) bytes = keys.Room (caller_at send.id send.cred) bytes
key_for (Send (Blocks above send)) bytes = keys.Blocks (caller_at send.id send.cred) bytes
key_for (Receive wait) bytes = keys.Message (caller_at wait.receive.id wait.receive.cred) wait.receive.selector
key_for (Get wait) bytes = keys.Settled

-- The word of the calls that wait for this count.
abbrev pub word_for : Count → ℕ
word_for (ArrivedOf slot) = slot
word_for (FreedOf slot) = bounded_sum SLOTS slot
word_for Released = BLOCKS_WORD
word_for Settled = SETTLED_WORD

-- The number of bytes in the frame of a parked call, or 0. The frame of a back is that of the send of what is held.
abbrev pub frame_length : Option Message → Option Parked → ℕ
frame_length message parked = if is_back_parked parked then held_length message else parked_bytes parked

-- What the parked call of a client waits for, if one is parked.
abbrev pub parked_key : Option Message → Option Parked → Option Key
parked_key message parked =
    option_map (λ (waiting : Waiting). key_for waiting (frame_length message parked)) (parked_wait parked)

abbrev pub client_key : {T : Type 0} → Option Message → Option (Sitting T) → Option Key
client_key message None = None
client_key message (Some client) = parked_key message client.parked

-- The same of a place, or what the send waits for that gives back what is held there.
abbrev pub returning_key : {T : Type 0} → Option Message → Option (Sitting T) → Option SendWait → Option Key
returning_key message client None = client_key message client
returning_key message client (Some wait) = Some (key_for (Send wait) (held_length message))

abbrev pub key_in : {B T : Type 0} → Seated B T → Option Key
key_in place = returning_key place.message place.client place.returning

-- The same of the place of this number, if there is one.
abbrev pub key_of_some : {B T : Type 0} → Option (Seated B T) → Option Key
key_of_some None = None
key_of_some (Some place) = key_in place

abbrev pub key_of_place : {B T : Type 0} → List (Seated B T) → ℕ → Option Key
key_of_place places place = key_of_some (slice_get places place)

-- ---- its line

-- What is at the place waits, if it waits, in the line of its calls; or the place is due, since memory for that was
-- refused.
abbrev pub IsLined : {B T : Type 0} → ℕ → List (Seated B T) → Parking → Type 0
IsLined place places parking = (key : Key) → key_of_place places place ≡ Some key →
    (key_at parking place ≡ Some key) ⊎ ((why_at parking place ≡ by_all) ⊎ (length parking.why ≤ place))
