-- What a handler that may hold a message does to its pass and its message (this project's profile). These
-- are the definitions of `Holding`, for a pass, and the pieces of a request, as in `Parked`.
use Rattle.std.specs.Prelude.{◌≡◌, ◌⊎◌, ⊤, ℕ, ℤ, true, List, [], Option, Some, None, Result, Ok}
use Rattle.sysv_keys.specs.declared.identifier.TheConstants.{SLOTS}
use Rattle.sysv_model.specs.declared.cred.Cred.{Cred}
use Rattle.sysv_model.specs.declared.errno.Errno.{Errno}
use Rattle.sysv_model.specs.declared.flags.Flags.{Flags}
use Rattle.sysv_session.specs.declared.handler.RequestOutcome.{RequestOutcome}
use Rattle.sysv_session.specs.declared.served.Served.{Served}
use Rattle.sysv_session.specs.Answers.{MayAnswer}
use Rattle.sysv_session.specs.Calls.{Meaning}
use Rattle.sysv_session.specs.Together.{ServesTogether}
use Rattle.sysv_service.specs.declared.progress.Progress.{Progress}
use Rattle.sysv_service.specs.declared.progress.Progress.TheVariants as progress
use Rattle.sysv_service.specs.Ran.{Pass}
use Rattle.sysv_service.specs.Told.{TellsRow}
use Rattle.sysv_steps.specs.declared.clock.Clock.{Ghosts as ClockGhosts}
use Rattle.sysv_wire.specs.declared.frame.Version.{Version}
use Rattle.sysv_wire.specs.declared.request.Ask.{Ask}
use Rattle.sysv_wire.specs.declared.frame.Version.TheVariants.{Three}
use Rattle.sysv_wire.specs.declared.request.Ask.TheVariants.{Snd, Rcv, Hold, Back}
use Rattle.sysv_seats.specs.declared.keeper.Keeper.{Keeper}
use Rattle.sysv_steps.specs.declared.pending.Waiting.{Waiting}
use Rattle.sysv_steps.specs.declared.pending.Waiting.TheVariants.{Send, Receive}
use Rattle.sysv_seats.specs.Asked.{ComesFrom, ReadsReleased}
use Rattle.sysv_seats.specs.Holding as holding
use Rattle.sysv_seats.specs.Holding.{Holder, Message, Timed, back_outcome, begun_with, can_hold, held_by, hold_outcome}
use Rattle.sysv_seats.specs.Holding.{no_flags}
use Rattle.sysv_seats.specs.Parked.{GoesOn, IsParked, IsWaitOf}

-- The pass of the handler, and the message that its session holds.
abbrev pub holder_of : {C R : Type 0} {clock : ClockGhosts C} → Keeper C R clock → Holder Pass
holder_of keeper = record { at = keeper.handler.pass; message = keeper.hand.message }

-- Request by request, for a pass.
abbrev pub HoldAsks : (ℕ → Type 0) → Type 0 → Version → Cred → Ask → List ℕ → Holder Pass → RequestOutcome → List ℕ →
    Holder Pass → Type 0
HoldAsks = holding.HoldAsks ComesFrom ReadsReleased TellsRow

-- What was held is spent.
abbrev pub Spends : Version → Holder Pass → RequestOutcome → List ℕ → Holder Pass → Type 0
Spends = holding.Spends ComesFrom ReadsReleased TellsRow

-- What the calls of a session mean that may hold a message.
abbrev pub holds_with : (ℕ → Type 0) → Type 0 → Meaning (Timed Pass)
holds_with may may_leave old cred request text outcome given new =
    holding.TimedAsks ComesFrom ReadsReleased TellsRow may may_leave request.version cred request.ask text old outcome
    given new

-- The time of what is held was over, and it was sent again.
abbrev pub Lapses : (ℕ → Type 0) → Timed Pass → RequestOutcome → Timed Pass → Type 0
Lapses = holding.Lapses ComesFrom ReadsReleased TellsRow

-- That happened any number of times.
abbrev pub LapsesTo : (ℕ → Type 0) → Timed Pass → Timed Pass → Type 0
LapsesTo = holding.LapsesTo ComesFrom ReadsReleased TellsRow

-- What a session that read versions up to the newest one did to its pass, and what it held at its end.
-- Its replies were gathered, and it held nothing at its start. After its last request too, the time of what
-- it held may have been over.
abbrev pub ServesHolding : Version → (ℕ → Type 0) → Type 0 → Served → (old : Pass) → (new : Timed Pass) →
    (left rest taken more : Option (List ℕ)) → Type 0
ServesHolding newest may may_leave served old new left rest taken more = (settled : Timed Pass)
    × ServesTogether newest (holds_with may may_leave) SLOTS served (begun_with old) settled left rest taken more
    × LapsesTo may settled new

-- ---- requests in pieces

-- The wait is one of the call of this request. A hold waits like a receive, and a back like a send.
abbrev pub IsHoldWaitOf : Ask → Waiting → Type 0
IsHoldWaitOf (Hold id size mtype flags seconds) (Receive wait) = ⊤
IsHoldWaitOf Back (Send wait) = ⊤
IsHoldWaitOf ask waiting = IsWaitOf ask waiting

-- The attributes of the queue were requested, and the caller may send to it, or not for this reason.
abbrev pub AsksForWriting : Cred → ℤ → Pass → Result ⊤ Errno → Pass → Type 0
AsksForWriting = holding.AsksForWriting ComesFrom ReadsReleased TellsRow

-- The session may hold a message of the queue, and the receive of its hold is parked.
abbrev pub ReceiveParked : (ℕ → Type 0) → Cred → ℤ → ℕ → ℤ → Flags → List ℕ → Holder Pass → Waiting → Holder Pass →
    Type 0
ReceiveParked may cred id size mtype flags text before waiting after =
    (can_hold flags before.message ≡ true) × (granted : Pass) × AsksForWriting cred id before.at (Ok tt) granted
    × IsParked may cred (Rcv id size mtype flags) text granted waiting after.at × (after.message ≡ before.message)

-- The send of what is held is parked.
abbrev pub BackParked : (ℕ → Type 0) → Holder Pass → Waiting → Holder Pass → Type 0
BackParked may before waiting after = (message : Message) × (before.message ≡ Some message)
    × IsParked may message.cred (Snd message.id message.mtype no_flags) message.text before.at waiting after.at
    × (after.message ≡ before.message)

-- A request was begun, and its call is parked: that of a hold is a receive, and that of a back is a send of what is
-- held. What is held stays.
abbrev pub HoldParked : (ℕ → Type 0) → Cred → Ask → List ℕ → Holder Pass → Waiting → Holder Pass → Type 0
HoldParked may cred (Hold id size mtype flags seconds) text before waiting after =
    ReceiveParked may cred id size mtype flags text before waiting after
HoldParked may cred Back text before waiting after = BackParked may before waiting after
HoldParked may cred ask text before waiting after =
    IsParked may cred ask text before.at waiting after.at × (after.message ≡ before.message)

-- A request was begun. It is over, as a request of a caller that does not leave, or it is parked and has
-- no body.
abbrev pub HoldBegun : (ℕ → Type 0) → Version → Cred → Ask → List ℕ → Holder Pass →
    Progress Waiting RequestOutcome → List ℕ → Holder Pass → Type 0
HoldBegun may version cred ask text before (progress.Waits waiting) given after =
    HoldParked may cred ask text before waiting after × (given ≡ [])
HoldBegun may version cred ask text before (progress.Over outcome) given after =
    HoldAsks may ⊥ version cred ask text before outcome given after

-- If the request is over, a handler may return its outcome. If it waits, the wait is one of its call.
abbrev pub HoldProgress : Version → Ask → Progress Waiting RequestOutcome → List ℕ → Type 0
HoldProgress version ask (progress.Waits waiting) given = IsHoldWaitOf ask waiting
HoldProgress version ask (progress.Over outcome) given = MayAnswer version ask outcome given

-- How far a hold has come, by how far its receive has come.
abbrev pub hold_progress : Version → Progress Waiting RequestOutcome → Progress Waiting RequestOutcome
hold_progress version (progress.Waits waiting) = progress.Waits waiting
hold_progress version (progress.Over outcome) = progress.Over (hold_outcome version outcome)

-- How far a back has come, by how far its send has come.
abbrev pub back_progress : Version → Progress Waiting RequestOutcome → Progress Waiting RequestOutcome
back_progress version (progress.Waits waiting) = progress.Waits waiting
back_progress version (progress.Over outcome) = progress.Over (back_outcome version outcome)

-- What is still held once the send of it has come so far.
abbrev pub held_after : Option Message → Progress Waiting RequestOutcome → Option Message
held_after held (progress.Waits waiting) = held
held_after held (progress.Over outcome) = None

-- What is held once the receive of a hold has come so far. While it waits, nothing is held.
abbrev pub held_at : Cred → ℤ → (seconds : ℕ) → Progress Waiting RequestOutcome → List ℕ → Option Message
held_at cred id seconds (progress.Waits waiting) given = None
held_at cred id seconds (progress.Over outcome) given = held_by cred id seconds outcome given

-- A parked hold was left at its wait, since memory for its message was refused or a message is held; or its receive
-- looked at its count once, and what it took is held.
abbrev pub HoldGoesOn : (ℕ → Type 0) → Version → Cred → ℤ → (seconds : ℕ) → Waiting → List ℕ → Holder Pass →
    Progress Waiting RequestOutcome → List ℕ → Holder Pass → Type 0
HoldGoesOn may version cred id seconds waiting text before result given after =
    ((result ≡ progress.Waits waiting) × (after ≡ before) × (given ≡ []))
    ⊎ ((came : Progress Waiting RequestOutcome) × GoesOn may version waiting text before.at came given after.at
    × (result ≡ hold_progress version came) × (after.message ≡ held_at cred id seconds came given))

-- The parked call of any other request looked at its count once. What is held stays.
abbrev pub GoesOnBeside : (ℕ → Type 0) → Version → Waiting → List ℕ → Holder Pass → Progress Waiting RequestOutcome →
    List ℕ → Holder Pass → Type 0
GoesOnBeside may version waiting text before result given after =
    GoesOn may version waiting text before.at result given after.at × (after.message ≡ before.message)

-- The send of what is held looked at its count once.
abbrev pub BackGoesOn : (ℕ → Type 0) → Version → Waiting → Holder Pass → Progress Waiting RequestOutcome → List ℕ →
    Holder Pass → Type 0
BackGoesOn may version waiting before result given after =
    ((before.message ≡ None) × (result ≡ progress.Waits waiting) × (after ≡ before) × (given ≡ []))
    ⊎ ((message : Message) × (before.message ≡ Some message) × (came : Progress Waiting RequestOutcome)
    × GoesOn may Three waiting message.text before.at came [] after.at × (result ≡ back_progress version came)
    × (after.message ≡ held_after before.message came) × (given ≡ []))

-- The parked call of a request looked at its count once, or is a hold without memory.
abbrev pub AnyGoesOn : (ℕ → Type 0) → Version → Cred → Ask → Waiting → List ℕ → Holder Pass →
    Progress Waiting RequestOutcome → List ℕ → Holder Pass → Type 0
AnyGoesOn may version cred (Hold id size mtype flags seconds) waiting text before result given after =
    HoldGoesOn may version cred id seconds waiting text before result given after
AnyGoesOn may version cred Back waiting text before result given after =
    BackGoesOn may version waiting before result given after
AnyGoesOn may version cred ask waiting text before result given after =
    GoesOnBeside may version waiting text before result given after
