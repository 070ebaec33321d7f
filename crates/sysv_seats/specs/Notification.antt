-- What a call has changed for calls that wait, by how its request ended (this project's profile). A
-- receive waits for the arrived count of its slot, and a send waits for the freed count of its slot
-- or for the released count of the pool. A get waits for the settled count of the registry. An
-- accepted message raises the arrived count. A message that is taken raises the freed count, and
-- then the released count, as its blocks are returned. A queue that is set or removed raises all
-- three. A send that had reserved blocks and was refused, or then waits for room, raises the released
-- count. A get that makes an identifier settles it, or forgets it and fails: both raise the settled
-- count. A get that waits has made no identifier. A queue that is removed raises the settled count
-- too, as its identifier is forgotten.
use Rattle.std.specs.Prelude.{◌≡◌, ◌⊎◌, ◌++◌, ◌≤◌, ◌||◌, ℤ, Bool, true, false, not, List, [], ◌∷◌, length}
use Rattle.std.specs.Prelude.{Option, None, Some, if◌then◌else◌, vec_capacity}
use Rattle.std.specs.Ordering.{int_eq}
use Rattle.std.specs.List.{Contains}
use Rattle.std.specs.Option.{option_to_list}
use Rattle.sysv_keys.specs.Identifier.{slot_of_id}
use Rattle.sysv_model.specs.declared.flags.Flags.{Flags}
use Rattle.sysv_model.specs.declared.flags.TheConstants.Flags.{IPC_CREAT}
use Rattle.sysv_model.specs.declared.limits.TheConstants.{IPC_PRIVATE}
use Rattle.sysv_model.specs.HasFlag.{has_flag}
use Rattle.sysv_service.specs.declared.progress.Progress.{Progress}
use Rattle.sysv_service.specs.declared.progress.Progress.TheVariants as progress
use Rattle.sysv_steps.specs.declared.send.SendWait.TheVariants.{Room}
use Rattle.sysv_session.specs.declared.handler.RequestOutcome.{RequestOutcome}
use Rattle.sysv_session.specs.declared.handler.RequestOutcome.TheVariants.{Reply, Got, Left}
use Rattle.sysv_wire.specs.declared.reply.ReplyContent.{ReplyContent}
use Rattle.sysv_wire.specs.declared.reply.ReplyContent.TheVariants.{Refused, Hold}
use Rattle.sysv_wire.specs.declared.request.Ask.{Ask}
use Rattle.sysv_wire.specs.declared.request.Ask.TheVariants.{Get, Snd, Rcv, Set, Rm, Hold as HoldOne}
use Rattle.sysv_seats.specs.declared.notification.Notification.{Notification}
use Rattle.sysv_seats.specs.declared.notification.Notification.TheVariants as notifications
use Rattle.sysv_seats.specs.declared.notification.Told.{Told}
use Rattle.sysv_seats.specs.declared.tools.Tools.{Tools}
use Rattle.sysv_steps.specs.declared.pending.Waiting.{Waiting}
use Rattle.sysv_steps.specs.declared.pending.Waiting.TheVariants.{Send}

-- ---- one call

-- The reply states an error.
abbrev pub is_refusal : ReplyContent → Bool
is_refusal (Refused why) = true
is_refusal content = false

-- The call did what was requested.
abbrev pub is_done : RequestOutcome → Bool
is_done (Reply reply) = not (is_refusal reply.result)
is_done (Got delivery) = true
is_done Left = false

-- The message that a hold took from this queue, by its reply.
abbrev pub freed_by_reply : ℤ → ReplyContent → Option Notification
freed_by_reply id (Hold mtype) = Some (notifications.Freed (slot_of_id id) mtype)
freed_by_reply id content = None

-- The message that a receive or a hold took from this queue.
abbrev pub freed_by : ℤ → RequestOutcome → Option Notification
freed_by id (Got delivery) = Some (notifications.Freed (slot_of_id id) delivery.mtype)
freed_by id (Reply answer) = freed_by_reply id answer.result
freed_by id Left = None

-- What the call changed at a slot.
abbrev pub changed_by : Ask → RequestOutcome → Option Notification
changed_by (Snd id mtype flags) outcome =
    if is_done outcome then Some (notifications.Arrived (slot_of_id id) mtype) else None
changed_by (Rcv id size mtype flags) outcome = freed_by id outcome
changed_by (HoldOne id size mtype flags seconds) outcome = freed_by id outcome
changed_by (Set id to) outcome = if is_done outcome then Some (notifications.Changed (slot_of_id id)) else None
changed_by (Rm id) outcome = if is_done outcome then Some (notifications.Changed (slot_of_id id)) else None
changed_by ask outcome = None

-- The call may have raised the released count.
abbrev pub may_release : Ask → RequestOutcome → Bool
may_release (Snd id mtype flags) outcome = not (is_done outcome)
may_release (Rcv id size mtype flags) outcome = is_done outcome
may_release (HoldOne id size mtype flags seconds) outcome = is_done outcome
may_release (Set id to) outcome = is_done outcome
may_release (Rm id) outcome = is_done outcome
may_release ask outcome = false

-- A get with this key and these flags may make a queue.
abbrev pub may_make : ℤ → Flags → Bool
may_make key flags = int_eq key IPC_PRIVATE || has_flag IPC_CREAT flags

-- The call may have raised the settled count.
abbrev pub may_settle : Ask → RequestOutcome → Bool
may_settle (Get key flags) outcome = may_make key flags
may_settle (Rm id) outcome = is_done outcome
may_settle ask outcome = false

-- A call that is over.
abbrev pub told_by : Ask → RequestOutcome → Told
told_by ask outcome = record {
  there = changed_by ask outcome;
  released = may_release ask outcome;
  settled = may_settle ask outcome;
}

-- A send that waits for room.
abbrev pub waits_for_room : Waiting → Bool
waits_for_room (Send (Room above send)) = true
waits_for_room waiting = false

-- A call that has come to this wait.
abbrev pub told_at : Waiting → Told
told_at waiting = record { there = None; released = waits_for_room waiting; settled = false }

-- A call that has come so far.
abbrev pub told_of : Ask → Progress Waiting RequestOutcome → Told
told_of ask (progress.Waits waiting) = told_at waiting
told_of ask (progress.Over outcome) = told_by ask outcome

-- ---- the notifications of many calls

-- The notifications that were kept. If there was no room for one, the last is that anything may have
-- changed.
abbrev pub with_missed : (missed : Bool) → List Notification → List Notification
with_missed true kept = kept ++ notifications.Anything ∷ []
with_missed false kept = kept

-- The notifications, in the order in which they came.
abbrev pub notifications_in : Tools → List Notification
notifications_in tools = with_missed tools.missed tools.notifications.items

-- What one call changed, as notifications.
abbrev pub notifications_of : Told → List Notification
notifications_of told = option_to_list told.there ++ ((if told.released then notifications.Released ∷ [] else [])
    ++ (if told.settled then notifications.Settled ∷ [] else []))

-- These come after the notifications that were kept, if there is room for them. In any case each of them, and
-- each that there was, is there, or the last is that anything may have changed. Nothing else changes.
abbrev pub Keeps : List Notification → Tools → Tools → Type 0
Keeps more old new = (new ≡ record old { notifications = new.notifications; missed = new.missed })
    × (vec_capacity new.notifications ≡ vec_capacity old.notifications)
    × (length (old.notifications.items ++ more) ≤ vec_capacity old.notifications →
    (new.notifications.items ≡ old.notifications.items ++ more) × (new.missed ≡ old.missed))
    × ((notification : Notification) → Contains (notifications_in old ++ more) notification →
    Contains (notifications_in new) notification ⊎ (new.missed ≡ true))
    × (old.missed ≡ true → new.missed ≡ true)

-- The last notification was removed, if there was one. Nothing else changes.
abbrev pub TakesLast : Tools → Option Notification → Tools → Type 0
TakesLast old taken new = (new ≡ record old { notifications = new.notifications; missed = new.missed })
    × (vec_capacity new.notifications ≡ vec_capacity old.notifications)
    × (notifications_in old ≡ notifications_in new ++ option_to_list taken) × (taken ≡ None → notifications_in old ≡ [])

-- A message of this type was taken.
abbrev pub is_taken : ℤ → Notification → Bool
is_taken mtype (notifications.Freed slot type) = int_eq type mtype
is_taken mtype more = false
