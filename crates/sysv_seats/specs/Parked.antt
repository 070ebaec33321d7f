-- Requests that are made in pieces. A request is begun and makes its steps until it waits or is
-- over. Only a get, a send and a receive wait. A call that waits is parked. Later it looks at the
-- count for which it waits, and goes on once the count is at its goal. This project's profile.
use Rattle.std.specs.Prelude.{◌≡◌, ◌<◌, ◌≤◌, ◌⊎◌, ⊤, ℕ, ℤ, List, [], length, Option, Some, None, Result}
use Rattle.sysv_keys.specs.declared.identifier.TheConstants.{SLOTS}
use Rattle.sysv_model.specs.declared.cred.Cred.{Cred}
use Rattle.sysv_model.specs.declared.errno.Errno.{Errno}
use Rattle.sysv_model.specs.declared.limits.TheConstants.{MESSAGE_BYTES}
use Rattle.sysv_model.specs.declared.selector.Selector.{Selector}
use Rattle.sysv_queue.specs.Delivery.{Given}
use Rattle.sysv_session.specs.declared.handler.RequestOutcome.{RequestOutcome}
use Rattle.sysv_session.specs.Answers.{MayAnswer, IsReplied as HasReply}
use Rattle.sysv_service.specs.declared.progress.Progress.{Progress}
use Rattle.sysv_service.specs.declared.progress.Progress.TheVariants as progress
use Rattle.sysv_steps.specs.declared.get.GetWait.{GetWait}
use Rattle.sysv_steps.specs.declared.receive.ReceiveWait.{ReceiveWait}
use Rattle.sysv_steps.specs.declared.send.SendWait.{SendWait}
use Rattle.sysv_service.specs.Ran.{Pass}
use Rattle.sysv_steps.specs.Seen.{get_wait, receive_wait, send_wait}
use Rattle.sysv_service.specs.Pending.{GetsOn, ReceivesOn, SendsOn, IsReached, StillWaits}
use Rattle.sysv_steps.specs.Call.{Kind, Gets, Sends, Receives, Msgget, Msgsnd, Msgrcv}
use Rattle.sysv_steps.specs.Resume.{Count, ArrivedOf, FreedOf, Released, Settled}
use Rattle.sysv_steps.specs.State.{Phase, Wait, Goes, Waits}
use Rattle.sysv_wire.specs.declared.frame.Op.TheVariants as op
use Rattle.sysv_wire.specs.declared.frame.Version.{Version}
use Rattle.sysv_wire.specs.declared.reply.ReplyContent.TheVariants as content
use Rattle.sysv_wire.specs.declared.request.Ask.{Ask}
use Rattle.sysv_wire.specs.declared.request.Ask.TheVariants.{Get as AskGet, Snd, Rcv}
use Rattle.sysv_seats.specs.declared.waiting.Awaited.{Awaited}
use Rattle.sysv_seats.specs.declared.waiting.Awaited.TheVariants as awaited
use Rattle.sysv_seats.specs.declared.waiting.Waiting.{Waiting}
use Rattle.sysv_seats.specs.declared.waiting.Waiting.TheVariants.{Send, Receive, Get}
use Rattle.sysv_seats.specs.Asked.{Asks, ComesFrom, ReadsReleased}
use Rattle.sysv_seats.specs.Replies.{done_reply, given_reply, id_reply}

-- ---- the waits of the code

-- The kind of a call that waits.
abbrev pub kind_in : Waiting → Kind
kind_in (Send w) = Sends
kind_in (Receive w) = Receives
kind_in (Get w) = Gets

-- The wait of a call. `text` is the body of a send.
abbrev pub wait_in : (waiting : Waiting) → List ℕ → Wait (kind_in waiting)
wait_in (Send w) text = send_wait w text
wait_in (Receive w) text = receive_wait w
wait_in (Get w) text = get_wait w

-- The count that is meant.
abbrev pub awaited_count : Awaited → Count
awaited_count (awaited.Arrived slot) = ArrivedOf slot
awaited_count (awaited.Freed slot) = FreedOf slot
awaited_count awaited.Released = Released
awaited_count awaited.Settled = Settled

-- The slot, if there is one, exists.
abbrev pub IsWithinSlots : Awaited → Type 0
IsWithinSlots (awaited.Arrived slot) = slot < SLOTS
IsWithinSlots (awaited.Freed slot) = slot < SLOTS
IsWithinSlots awaited.Released = ⊤
IsWithinSlots awaited.Settled = ⊤

-- Which messages the call requests, if it is a receive.
abbrev pub selector_in : Waiting → Option Selector
selector_in (Send w) = None
selector_in (Receive w) = Some w.receive.selector
selector_in (Get w) = None

-- The wait is one of a call of this request.
abbrev pub IsWaitOf : Ask → Waiting → Type 0
IsWaitOf (Snd id mtype flags) (Send w) = ⊤
IsWaitOf (Rcv id size mtype flags) (Receive w) = ⊤
IsWaitOf (AskGet key flags) (Get w) = ⊤
IsWaitOf ask waiting = ⊥

-- ---- parked calls

-- A request was begun with the pass `before`, and is parked with the pass `after`. The steps of its
-- call led to this wait. A send read the released count at its start, and its body is not too long.
abbrev pub IsParked : (ℕ → Type 0) → Cred → Ask → List ℕ → Pass → Waiting → Pass → Type 0
IsParked may cred (Snd id mtype flags) text before (Send w) after = (released : ℕ) × (mid : Pass)
    × ReadsReleased released before mid
    × ComesFrom may cred (Msgsnd id mtype flags text) released mid (Waits (send_wait w text)) after
    × (length text ≤ MESSAGE_BYTES)
IsParked may cred (Rcv id size mtype flags) text before (Receive w) after =
    ComesFrom may cred (Msgrcv id size mtype flags) 0 before (Waits (receive_wait w)) after
IsParked may cred (AskGet key flags) text before (Get w) after =
    ComesFrom may cred (Msgget key flags) 0 before (Waits (get_wait w)) after
IsParked may cred ask text before waiting after = ⊥

-- A request was begun with the pass `before`. With the pass `after` it is over, as a request of a
-- caller that does not leave, or it is parked and has no body.
abbrev pub HasBegun : (ℕ → Type 0) → Version → Cred → Ask → List ℕ → Pass → Progress Waiting RequestOutcome → List ℕ →
    Pass → Type 0
HasBegun may version cred ask text before (progress.Waits waiting) given after =
    IsParked may cred ask text before waiting after × (given ≡ [])
HasBegun may version cred ask text before (progress.Over outcome) given after =
    Asks may ⊥ version cred ask text before outcome given after

-- If the request is over, a handler may return its outcome. If it waits, the wait is one of its
-- call.
abbrev pub MayProgress : Version → Ask → Progress Waiting RequestOutcome → List ℕ → Type 0
MayProgress version ask (progress.Waits waiting) given = IsWaitOf ask waiting
MayProgress version ask (progress.Over outcome) given = MayAnswer version ask outcome given

-- If the request is over, it has a reply: no caller has left.
abbrev pub IsReplied : Progress Waiting RequestOutcome → Type 0
IsReplied (progress.Waits waiting) = ⊤
IsReplied (progress.Over outcome) = HasReply outcome

-- ---- a parked call goes on

-- How far a request has come, by how far its send has come.
abbrev pub send_progress : Version → Progress SendWait (Result ⊤ Errno) → Progress Waiting RequestOutcome
send_progress version (progress.Waits w) = progress.Waits (Send w)
send_progress version (progress.Over told) = progress.Over (done_reply version op.Snd content.Snd told)

-- How far a request has come, by how far its receive has come.
abbrev pub receive_progress : Version → Progress ReceiveWait (Result Given Errno) → Progress Waiting RequestOutcome
receive_progress version (progress.Waits w) = progress.Waits (Receive w)
receive_progress version (progress.Over told) = progress.Over (given_reply version told)

-- How far a request has come, by how far its get has come.
abbrev pub get_progress : Version → Progress GetWait (Result ℤ Errno) → Progress Waiting RequestOutcome
get_progress version (progress.Waits w) = progress.Waits (Get w)
get_progress version (progress.Over told) = progress.Over (id_reply version told)

-- A call of this kind made its steps from here until it waited or was over.
abbrev pub Proceeds : (ℕ → Type 0) → Version → (waiting : Waiting) → List ℕ → Phase (kind_in waiting) → Pass →
    Progress Waiting RequestOutcome → List ℕ → Pass → Type 0
Proceeds may version (Send w) text phase before result given after = (came : Progress SendWait (Result ⊤ Errno))
    × SendsOn may (Goes phase) before came text after × (result ≡ send_progress version came) × (given ≡ [])
Proceeds may version (Receive w) text phase before result given after =
    (came : Progress ReceiveWait (Result Given Errno)) × ReceivesOn may (Goes phase) before came given after
    × (result ≡ receive_progress version came)
Proceeds may version (Get w) text phase before result given after = (came : Progress GetWait (Result ℤ Errno))
    × GetsOn may (Goes phase) before came after × (result ≡ get_progress version came) × (given ≡ [])

-- The parked call read its count once. It found the count below the goal and is parked as before,
-- or found it at the goal and made its steps.
abbrev pub GoesOn : (ℕ → Type 0) → Version → Waiting → List ℕ → Pass → Progress Waiting RequestOutcome → List ℕ → Pass →
    Type 0
GoesOn may version waiting text before result given after =
    (StillWaits (wait_in waiting text) before after × (result ≡ progress.Waits waiting) × (given ≡ []))
    ⊎ ((phase : Phase (kind_in waiting)) × (mid : Pass) × IsReached (wait_in waiting text) before phase mid
    × Proceeds may version waiting text phase mid result given after)
