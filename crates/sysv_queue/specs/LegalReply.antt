-- The legal reply to a call at a slot with this state (POSIX.1-2017, msgget, msgsnd, msgrcv,
-- msgctl, each ERRORS; the order of the causes is this profile's). The causes of a call's replies
-- have one order, and a reply is legal if and only if its cause is the first that applies. A reply
-- that is not listed is never legal.
use Rattle.std.specs.Prelude.{◌≡◌, ℕ, ℤ, ◌≤◌, ◌⊎◌, Bool, true, false, ◌∷◌, ◌++◌, length, None, Some, MatchOption}
use Rattle.std.specs.Prelude.{IsSome, option_map, slice_get}
use Rattle.sysv_model.specs.declared.cred.Cred.{Cred}
use Rattle.sysv_model.specs.declared.errno.Errno.TheVariants.{EPERM, EACCES, EINVAL}
use Rattle.sysv_model.specs.declared.flags.Flags.{Flags}
use Rattle.sysv_model.specs.declared.attributes.SetTo.{SetTo}
use Rattle.sysv_model.specs.declared.limits.TheConstants.{MAX_QBYTES}
use Rattle.sysv_model.specs.Message.{Message}
use Rattle.sysv_model.specs.declared.selector.Selector.{Selector}
use Rattle.sysv_model.specs.History.{Call, Install, Probe, Look, Place, Take, ReadStat, Set, Remove, ReadRow, Reply}
use Rattle.sysv_model.specs.History.{Installed, Gone, Denied, Granted, Full, Fits, Accepted, NoMatch, TooLong, Taken}
use Rattle.sysv_model.specs.History.{Told, Done, Discarded, Refused, Shown, Entry, History}
use Rattle.sysv_model.specs.Live.{HasId}
use Rattle.sysv_queue.specs.Slot.{Slot, slot_of}
use Rattle.sysv_queue.specs.Fits.{Fits as FitsOn}
use Rattle.sysv_queue.specs.Granted.{MayRead, MayWrite, MayAsAsked, MayControl, MayLimit}
use Rattle.sysv_queue.specs.Named.{IsNamed}
use Rattle.sysv_queue.specs.Shown.{stat_of, row_of}

-- A queue is live, and a message of this size fits on it.
abbrev pub HasRoom : Slot → ℕ → Type 0
HasRoom s size = MatchOption s.live ⊥ (λ a. FitsOn a.qbytes s.messages size)

-- The replies to install: false if a queue is live, otherwise true.
abbrev pub LegalInstall : Slot → Reply → Type 0
LegalInstall s (Installed false) = IsSome s.live
LegalInstall s (Installed true) = s.live ≡ None
LegalInstall s reply = ⊥

-- The replies to probe: Gone if the identifier is not live, Denied if the caller lacks a permission
-- that the flags request, otherwise Granted.
abbrev pub LegalProbe : Slot → ℤ → Cred → Flags → Reply → Type 0
LegalProbe s id cred flags Gone = ¬ HasId s.live id
LegalProbe s id cred flags Denied = HasId s.live id × ¬ MayAsAsked flags cred s.live
LegalProbe s id cred flags Granted = HasId s.live id × MayAsAsked flags cred s.live
LegalProbe s id cred flags reply = ⊥

-- The replies to look: Gone if the identifier is not live, Denied without write permission, Full
-- with the freed count if the message does not fit, otherwise Fits.
abbrev pub LegalLook : Slot → ℤ → Cred → ℕ → Reply → Type 0
LegalLook s id cred size Gone = ¬ HasId s.live id
LegalLook s id cred size Denied = HasId s.live id × ¬ MayWrite cred s.live
LegalLook s id cred size (Full freed) = HasId s.live id × MayWrite cred s.live × ¬ HasRoom s size × (freed ≡ s.freed)
LegalLook s id cred size Fits = HasId s.live id × MayWrite cred s.live × HasRoom s size
LegalLook s id cred size reply = ⊥

-- The replies to place: those of look, with Accepted in place of Fits. The acceptance number is the
-- arrived count.
abbrev pub LegalPlace : Slot → ℤ → Cred → ℕ → Reply → Type 0
LegalPlace s id cred size Gone = ¬ HasId s.live id
LegalPlace s id cred size Denied = HasId s.live id × ¬ MayWrite cred s.live
LegalPlace s id cred size (Full freed) = HasId s.live id × MayWrite cred s.live × ¬ HasRoom s size × (freed ≡ s.freed)
LegalPlace s id cred size (Accepted number) =
    HasId s.live id × MayWrite cred s.live × HasRoom s size × (number ≡ s.arrived)
LegalPlace s id cred size reply = ⊥

-- The selector names a place, and this message is there.
abbrev pub Names : Slot → Selector → Message → Type 0
Names s selector m = (place : ℕ) × IsNamed selector s.messages place × (slice_get s.messages place ≡ Some m)

-- A receive of this size may take the message: its body is not longer, or MSG_NOERROR is set.
abbrev pub IsGivable : ℕ → Bool → Message → Type 0
IsGivable size noerror m = (length m.bytes ≤ size) ⊎ (noerror ≡ true)

-- The replies to take: Gone if the identifier is not live, Denied without read permission, NoMatch
-- with the arrived count if the selector names no place, TooLong if the named message may not be
-- taken, otherwise the named message.
abbrev pub LegalTake : Slot → ℤ → Cred → Selector → ℕ → Bool → Reply → Type 0
LegalTake s id cred selector size noerror Gone = ¬ HasId s.live id
LegalTake s id cred selector size noerror Denied = HasId s.live id × ¬ MayRead cred s.live
LegalTake s id cred selector size noerror (NoMatch arrived) =
    HasId s.live id × MayRead cred s.live × ((place : ℕ) → ¬ IsNamed selector s.messages place) × (arrived ≡ s.arrived)
LegalTake s id cred selector size noerror TooLong =
    HasId s.live id × MayRead cred s.live × ((m : Message) × Names s selector m × ¬ IsGivable size noerror m)
LegalTake s id cred selector size noerror (Taken m) =
    HasId s.live id × MayRead cred s.live × Names s selector m × IsGivable size noerror m
LegalTake s id cred selector size noerror reply = ⊥

-- The replies to stat: EINVAL if the identifier is not live, EACCES without read permission,
-- otherwise the attributes and the numbers of queued bytes and messages.
abbrev pub LegalStat : Slot → ℤ → Cred → Reply → Type 0
LegalStat s id cred (Refused EINVAL) = ¬ HasId s.live id
LegalStat s id cred (Refused EACCES) = HasId s.live id × ¬ MayRead cred s.live
LegalStat s id cred (Told stat) =
    HasId s.live id × MayRead cred s.live × (option_map (stat_of s.messages) s.live ≡ Some stat)
LegalStat s id cred reply = ⊥

-- The replies to set: EINVAL if the identifier is not live, EPERM if the caller may not change the
-- queue, EINVAL if the limit is above the maximum, EPERM if it is above the present limit and the
-- caller is not user 0, otherwise Done.
abbrev pub LegalSet : Slot → ℤ → Cred → SetTo → Reply → Type 0
LegalSet s id cred to (Refused EINVAL) =
    ¬ HasId s.live id ⊎ (HasId s.live id × MayControl cred s.live × ¬ (to.qbytes ≤ MAX_QBYTES))
LegalSet s id cred to (Refused EPERM) =
    (HasId s.live id × ¬ MayControl cred s.live)
    ⊎ (HasId s.live id × MayControl cred s.live × (to.qbytes ≤ MAX_QBYTES) × ¬ MayLimit cred to s.live)
LegalSet s id cred to Done =
    HasId s.live id × MayControl cred s.live × (to.qbytes ≤ MAX_QBYTES) × MayLimit cred to s.live
LegalSet s id cred to reply = ⊥

-- The replies to remove: EINVAL if the identifier is not live, EPERM if the caller may not remove
-- the queue, otherwise all queued messages, in order.
abbrev pub LegalRemove : Slot → ℤ → Cred → Reply → Type 0
LegalRemove s id cred (Refused EINVAL) = ¬ HasId s.live id
LegalRemove s id cred (Refused EPERM) = HasId s.live id × ¬ MayControl cred s.live
LegalRemove s id cred (Discarded messages) = HasId s.live id × MayControl cred s.live × (messages ≡ s.messages)
LegalRemove s id cred reply = ⊥

-- The replies to row: none if no queue is live, otherwise the queue's row.
abbrev pub LegalRow : Slot → Reply → Type 0
LegalRow s (Shown row) = row ≡ option_map (row_of s.messages) s.live
LegalRow s reply = ⊥

-- The reply to this call is legal at a slot with this state.
abbrev pub Legal : Slot → Call → Reply → Type 0
Legal s (Install id key cred mode now) reply = LegalInstall s reply
Legal s (Probe id cred flags) reply = LegalProbe s id cred flags reply
Legal s (Look id cred size) reply = LegalLook s id cred size reply
Legal s (Place id cred mtype bytes now) reply = LegalPlace s id cred (length bytes) reply
Legal s (Take id cred selector size noerror now) reply = LegalTake s id cred selector size noerror reply
Legal s (ReadStat id cred) reply = LegalStat s id cred reply
Legal s (Set id cred to now) reply = LegalSet s id cred to reply
Legal s (Remove id cred) reply = LegalRemove s id cred reply
Legal s ReadRow reply = LegalRow s reply

-- The reply to this call is legal after this history.
abbrev pub IsLegalReply : History → Call → Reply → Type 0
IsLegalReply h call reply = Legal (slot_of h) call reply

-- Every reply of the history is legal after the entries before it.
abbrev pub IsLegalHistory : History → Type 0
IsLegalHistory h =
    (before : History) (e : Entry) (after : History) → h ≡ before ++ e ∷ after → IsLegalReply before e.call e.reply
