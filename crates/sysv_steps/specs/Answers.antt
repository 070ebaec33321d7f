-- What a user of System V queues can check of a result, by the arguments of the call and by the
-- call's own operations (POSIX.1-2017, msgget, msgsnd, msgrcv and msgctl, each RETURN VALUE and
-- ERRORS; that a retry makes its request again is this project's profile). Each line with an arrow
-- in both directions states the one cause of a result.
use Rattle.std.specs.Prelude.{◌≡◌, ℕ, ℤ, ◌≤◌, ◌⊎◌, ◌↔◌, Bool, true, false, List, [], ◌∷◌, length, take, count_by}
use Rattle.std.specs.List.{list_any, flat_map}
use Rattle.sysv_model.specs.declared.cred.Cred.{Cred}
use Rattle.sysv_model.specs.declared.attributes.Stat.{Stat}
use Rattle.sysv_model.specs.declared.errno.Errno.{Errno}
use Rattle.sysv_model.specs.declared.errno.Errno.TheVariants.{EACCES, EAGAIN, EEXIST, EIDRM, EINVAL, ENOMSG, ENOSPC}
use Rattle.sysv_model.specs.declared.errno.Errno.TheVariants.{E2BIG}
use Rattle.sysv_model.specs.declared.flags.Flags.{Flags}
use Rattle.sysv_model.specs.declared.flags.TheConstants.Flags.{IPC_NOWAIT}
use Rattle.sysv_model.specs.HasFlag.{has_flag}
use Rattle.sysv_model.specs.Message.{Message}
use Rattle.sysv_model.specs.History.{Install, Probe, Installed, Gone, Denied, Granted, Full, Accepted, NoMatch, TooLong}
use Rattle.sysv_model.specs.History.{Taken, Told as TellsStat, Done, Discarded, Refused as IsRefusedFor}
use Rattle.sysv_model.specs.Registry.{Settle, Forget, Made, Unbound}
use Rattle.sysv_model.specs.Pool.{TooFew}
use Rattle.sysv_model.specs.Turn.{Op, AtSlot, AtRegistry, AtPool}
use Rattle.sysv_steps.specs.Call.{SystemCall, Msgget, Msgsnd, Msgrcv, MsgctlStat, MsgctlSet, MsgctlRmid}
use Rattle.sysv_steps.specs.State.{Ending, Id, Zero, Got, Told, Refused, Over}
use Rattle.sysv_steps.specs.Begin.{is_refused, begin}
use Rattle.sysv_steps.specs.Next.{wants_new}
use Rattle.sysv_steps.specs.Played.{Plays}

-- ---- what an operation was

-- The operation put a message on a queue.
abbrev pub was_accepted : Op → Bool
was_accepted (AtSlot slot call (Accepted number)) = true
was_accepted op = false

-- The message that the operation took, if it took one.
abbrev pub taken_by : Op → List Message
taken_by (AtSlot slot call (Taken message)) = message ∷ []
taken_by op = []

-- The operation found no room on the queue, or too few free blocks.
abbrev pub was_full : Op → Bool
was_full (AtSlot slot call (Full freed)) = true
was_full (AtPool call TooFew) = true
was_full op = false

-- The operation found no message that the selector names.
abbrev pub found_none : Op → Bool
found_none (AtSlot slot call (NoMatch arrived)) = true
found_none op = false

-- The operation found that the named message is too long.
abbrev pub was_too_long : Op → Bool
was_too_long (AtSlot slot call TooLong) = true
was_too_long op = false

-- Permission was denied at a slot.
abbrev pub was_denied : Op → Bool
was_denied (AtSlot slot call Denied) = true
was_denied op = false

-- The operation is at a slot.
abbrev pub is_at_slot : Op → Bool
is_at_slot (AtSlot slot call reply) = true
is_at_slot op = false

-- The operation found at a slot that the identifier is not live.
abbrev pub found_gone : Op → Bool
found_gone (AtSlot slot call Gone) = true
found_gone op = false

-- The operation had at a slot any other reply than that.
abbrev pub found_live : Op → Bool
found_live (AtSlot slot call Gone) = false
found_live (AtSlot slot call reply) = true
found_live (AtRegistry call reply) = false
found_live (AtPool call reply) = false

-- The identifier that the registry made for the call.
abbrev pub made_by : Op → List ℤ
made_by (AtRegistry call (Made id)) = id ∷ []
made_by op = []

-- The identifier under which the operation installed a queue.
abbrev pub installed_by : Op → List ℤ
installed_by (AtSlot slot (Install id key cred mode now) (Installed true)) = id ∷ []
installed_by op = []

-- The identifier that the operation requested the registry to settle.
abbrev pub settled_by : Op → List ℤ
settled_by (AtRegistry (Settle id) reply) = id ∷ []
settled_by op = []

-- The operation found another queue in the slot of the new one.
abbrev pub was_occupied : Op → Bool
was_occupied (AtSlot slot call (Installed false)) = true
was_occupied op = false

-- The identifier of a live queue that the caller may use as it requested.
abbrev pub granted_by : Op → List ℤ
granted_by (AtSlot slot (Probe id cred flags) Granted) = id ∷ []
granted_by op = []

-- The operation found the queue of the key live, whether or not the caller may use it.
abbrev pub found_the_key : Op → Bool
found_the_key (AtSlot slot call Granted) = true
found_the_key (AtSlot slot call Denied) = true
found_the_key op = false

-- The error with which the registry refused the call: no queue has the key, or no slot is vacant.
abbrev pub unbound_by : Op → List Errno
unbound_by (AtRegistry call (Unbound why)) = why ∷ []
unbound_by op = []

-- The attributes that the operation returned.
abbrev pub told_by : Op → List Stat
told_by (AtSlot slot call (TellsStat stat)) = stat ∷ []
told_by op = []

-- The operation changed the attributes of the queue.
abbrev pub was_changed : Op → Bool
was_changed (AtSlot slot call Done) = true
was_changed op = false

-- The operation removed the queue.
abbrev pub was_removed : Op → Bool
was_removed (AtSlot slot call (Discarded messages)) = true
was_removed op = false

-- The operation requested the registry to forget an identifier, whatever it replied.
abbrev pub has_forgotten : Op → Bool
has_forgotten (AtRegistry (Forget id) reply) = true
has_forgotten op = false

-- The error with which the slot refused to report attributes, to change them or to remove the
-- queue.
abbrev pub refused_by : Op → List Errno
refused_by (AtSlot slot call (IsRefusedFor why)) = why ∷ []
refused_by op = []

-- At least one of the operations is such an operation.
abbrev pub some : (Op → Bool) → List Op → Type 0
some p ops = list_any p ops ≡ true

-- The flags have IPC_NOWAIT.
abbrev pub does_not_wait : Flags → Bool
does_not_wait flags = has_flag IPC_NOWAIT flags

-- ---- what is right

-- The call failed with one of these errors.
abbrev pub IsRefusedWith : List Errno → Ending → Type 0
IsRefusedWith [] ending = ⊥
IsRefusedWith (why ∷ more) ending = (ending ≡ Refused why) ⊎ IsRefusedWith more ending

-- The call failed with some error.
abbrev pub IsRefusal : Ending → Type 0
IsRefusal ending = (why : Errno) × (ending ≡ Refused why)

-- The cause of EIDRM: a turn of the call found the identifier gone, and one found it live.
abbrev pub IsRemoved : List Op → Type 0
IsRemoved ops = some found_gone ops × some found_live ops

-- The cause of EINVAL: the call's own arguments were refused, or a turn found the identifier gone
-- and none found it live.
abbrev pub IsInvalid : SystemCall → List Op → Type 0
IsInvalid asked ops = (is_refused asked ≡ true) ⊎ (some found_gone ops × (list_any found_live ops ≡ false))

-- The result of a send is right.
pub record IsRightSend (asked : SystemCall) (flags : Flags) (ops : List Op) (ending : Ending) : Type 0 where
  -- 0 if and only if the body was accepted; it is accepted at most once.
  pub zero : (ending ≡ Zero) ↔ some was_accepted ops
  pub once : count_by was_accepted ops ≤ 1
  -- EAGAIN if and only if the call does not wait and a turn found no room or too few blocks.
  pub again : (ending ≡ Refused EAGAIN) ↔ ((does_not_wait flags ≡ true) × some was_full ops)
  -- EACCES if and only if permission was denied.
  pub denied : (ending ≡ Refused EACCES) ↔ some was_denied ops
  pub removed : (ending ≡ Refused EIDRM) ↔ IsRemoved ops
  pub invalid : (ending ≡ Refused EINVAL) ↔ IsInvalid asked ops
  -- There is no other result.
  pub only : (ending ≡ Zero) ⊎ IsRefusedWith (EAGAIN ∷ EACCES ∷ EIDRM ∷ EINVAL ∷ []) ending

-- The result of a receive is right.
pub record IsRightReceive (asked : SystemCall) (size : ℕ) (flags : Flags) (ops : List Op)
    (ending : Ending) : Type 0 where
  -- A message if and only if exactly one was taken: its type, and at most `size` bytes of its body.
  pub got : (mtype : ℤ) (text : List ℕ) → (ending ≡ Got mtype text)
      ↔ ((m : Message) × (flat_map taken_by ops ≡ m ∷ []) × (mtype ≡ m.mtype) × (text ≡ take size m.bytes))
  -- At most one message is taken, also by a receive that fails.
  pub once : length (flat_map taken_by ops) ≤ 1
  -- ENOMSG if and only if the call does not wait and a turn found no message that the selector
  -- names.
  pub none : (ending ≡ Refused ENOMSG) ↔ ((does_not_wait flags ≡ true) × some found_none ops)
  -- E2BIG if and only if the named message was too long.
  pub long : (ending ≡ Refused E2BIG) ↔ some was_too_long ops
  pub denied : (ending ≡ Refused EACCES) ↔ some was_denied ops
  pub removed : (ending ≡ Refused EIDRM) ↔ IsRemoved ops
  pub invalid : (ending ≡ Refused EINVAL) ↔ IsInvalid asked ops
  pub only : ((mtype : ℤ) × (text : List ℕ) × (ending ≡ Got mtype text))
      ⊎ IsRefusedWith (ENOMSG ∷ E2BIG ∷ EACCES ∷ EIDRM ∷ EINVAL ∷ []) ending

-- The call made the queue of this identifier: the registry made the identifier, a queue was
-- installed under it, and the registry was requested to settle it.
abbrev pub IsNew : List Op → ℤ → Type 0
IsNew ops id =
    (flat_map made_by ops ≡ id ∷ []) × (flat_map installed_by ops ≡ id ∷ []) × (flat_map settled_by ops ≡ id ∷ [])

-- The call made the queue of this identifier, or it was granted the queue that it found and does
-- not require a new one.
abbrev pub IsItsOwn : Flags → List Op → ℤ → Type 0
IsItsOwn flags ops id = IsNew ops id ⊎ ((wants_new flags ≡ false) × (flat_map granted_by ops ≡ id ∷ []))

-- The causes of the errors of a msgget: the error that the registry reported; EEXIST for a live
-- queue if a new one is required, whether or not permission is granted; EACCES if permission was
-- denied and no new queue is required; ENOSPC if the slot of the new queue was occupied.
abbrev pub IsNotGiven : Flags → List Op → Errno → Type 0
IsNotGiven flags ops why =
    (flat_map unbound_by ops ≡ why ∷ [])
    ⊎ ((why ≡ EEXIST) × (wants_new flags ≡ true) × some found_the_key ops)
    ⊎ ((why ≡ EACCES) × (wants_new flags ≡ false) × some was_denied ops)
    ⊎ ((why ≡ ENOSPC) × some was_occupied ops)

-- The result of a msgget is right.
pub record IsRightGet (flags : Flags) (ops : List Op) (ending : Ending) : Type 0 where
  -- An identifier if and only if it is the call's own, and each error if and only if its cause was
  -- met.
  pub identifier : (id : ℤ) → (ending ≡ Id id) ↔ IsItsOwn flags ops id
  pub refused : (why : Errno) → (ending ≡ Refused why) ↔ IsNotGiven flags ops why
  pub only : ((id : ℤ) × (ending ≡ Id id)) ⊎ IsRefusal ending

-- The causes of the errors of a msgctl: the slot refused with this error, or the call's own
-- arguments were refused and the error is EINVAL.
abbrev pub IsRefusedSo : SystemCall → List Op → Errno → Type 0
IsRefusedSo asked ops why = ((why ≡ EINVAL) × (is_refused asked ≡ true)) ⊎ (flat_map refused_by ops ≡ why ∷ [])

-- The result of an IPC_STAT is right.
pub record IsRightStat (asked : SystemCall) (ops : List Op) (ending : Ending) : Type 0 where
  -- Attributes if and only if a turn reported them, once.
  pub told : (stat : Stat) → (ending ≡ Told stat) ↔ (flat_map told_by ops ≡ stat ∷ [])
  pub refused : (why : Errno) → (ending ≡ Refused why) ↔ IsRefusedSo asked ops why
  pub only : ((stat : Stat) × (ending ≡ Told stat)) ⊎ IsRefusal ending

-- The result of an IPC_SET is right.
pub record IsRightSet (asked : SystemCall) (ops : List Op) (ending : Ending) : Type 0 where
  -- 0 if and only if the queue was changed; it is changed at most once.
  pub zero : (ending ≡ Zero) ↔ some was_changed ops
  pub once : count_by was_changed ops ≤ 1
  pub refused : (why : Errno) → (ending ≡ Refused why) ↔ IsRefusedSo asked ops why
  pub only : (ending ≡ Zero) ⊎ IsRefusal ending

-- The result of an IPC_RMID is right.
pub record IsRightRemoval (asked : SystemCall) (ops : List Op) (ending : Ending) : Type 0 where
  -- 0 if and only if the queue was removed, and if and only if the registry was requested to forget
  -- an identifier; the queue is removed at most once.
  pub zero : (ending ≡ Zero) ↔ some was_removed ops
  pub once : count_by was_removed ops ≤ 1
  pub forgotten : (ending ≡ Zero) ↔ some has_forgotten ops
  pub refused : (why : Errno) → (ending ≡ Refused why) ↔ IsRefusedSo asked ops why
  pub only : (ending ≡ Zero) ⊎ IsRefusal ending

-- The result of a call is right for its arguments and its operations.
abbrev pub IsRightAnswer : SystemCall → List Op → Ending → Type 0
IsRightAnswer (Msgsnd id mtype flags text) ops ending = IsRightSend (Msgsnd id mtype flags text) flags ops ending
IsRightAnswer (Msgrcv id size mtype flags) ops ending =
    IsRightReceive (Msgrcv id size mtype flags) size flags ops ending
IsRightAnswer (Msgget key flags) ops ending = IsRightGet flags ops ending
IsRightAnswer (MsgctlStat id) ops ending = IsRightStat (MsgctlStat id) ops ending
IsRightAnswer (MsgctlSet id to) ops ending = IsRightSet (MsgctlSet id to) ops ending
IsRightAnswer (MsgctlRmid id) ops ending = IsRightRemoval (MsgctlRmid id) ops ending

-- Each call that plays these operations to its end has a right result.
abbrev pub EachAnswerIsRight : Type 0
EachAnswerIsRight = (cred : Cred) (asked : SystemCall) (released : ℕ) (ops : List Op) (ending : Ending) →
    Plays (begin cred asked released) ops (Over ending) → IsRightAnswer asked ops ending
