-- Messages that sessions hold (this project's profile). A hold is a receive whose message the session
-- remembers, a done spends it, and a back gives it back: by a `msgsnd` of the same body, with the same
-- type, to the same queue, without flags and with the session's credentials. A session holds one message
-- at most. If it ends before the message is spent or given back, such a `msgsnd` follows it. So it does
-- between two requests if the hold has a limit of time that is over.
use Rattle.std.specs.Prelude.{◌≡◌, ◌≤◌, ◌⊎◌, ◌&&◌, ⊤, ℕ, ℤ, Bool, true, not, List, [], ◌∷◌, ◌++◌, Option, None, Some}
use Rattle.std.specs.Prelude.{Result}
use Rattle.std.specs.List.{FoldsTo}
use Rattle.std.specs.Prelude.{Ok, Err}
use Rattle.std.specs.Prelude.{cond, is_some}
use Rattle.sysv_model.specs.declared.attributes.Row.{Row as Line}
use Rattle.sysv_model.specs.declared.attributes.Stat.{Stat as Attributes}
use Rattle.sysv_model.specs.declared.cred.Cred.{Cred}
use Rattle.sysv_model.specs.declared.errno.Errno.{Errno}
use Rattle.sysv_model.specs.declared.errno.Errno.TheVariants.{EACCES, EAGAIN, EINVAL}
use Rattle.sysv_model.specs.declared.flags.Flags.{Flags}
use Rattle.sysv_model.specs.declared.flags.TheConstants.Flags.{MSG_NOERROR}
use Rattle.sysv_model.specs.HasFlag.{has_flag}
use Rattle.sysv_rules.specs.declared.permission.Want.TheVariants.{Write}
use Rattle.sysv_rules.specs.Permission.{IsPermitted}
use Rattle.sysv_service.specs.Told.{TellsStat}
use Rattle.sysv_session.specs.declared.handler.RequestOutcome.{RequestOutcome}
use Rattle.sysv_session.specs.declared.handler.RequestOutcome.TheVariants.{Reply, Got, Left}
use Rattle.sysv_wire.specs.declared.frame.Op.TheVariants as op
use Rattle.sysv_wire.specs.declared.frame.Version.{Version}
use Rattle.sysv_wire.specs.declared.frame.Version.TheVariants.{Three}
use Rattle.sysv_wire.specs.declared.reply.Reply.{Reply as Answer}
use Rattle.sysv_wire.specs.declared.reply.ReplyContent.{ReplyContent}
use Rattle.sysv_wire.specs.declared.reply.ReplyContent.TheVariants as content
use Rattle.sysv_wire.specs.declared.request.Ask.{Ask}
use Rattle.sysv_wire.specs.declared.request.Ask.TheVariants.{Hold, Done, Back}
use Rattle.sysv_seats.specs.Replies.{reply}
use Rattle.sysv_seats.specs.Requests.{Going, Asks, Ends, Receives, Sends}
use Rattle.sysv_steps.specs.Call.{MsgctlStat}
use Rattle.sysv_steps.specs.State.{Ending}
use Rattle.sysv_steps.specs.Stepping.{no_moment}

-- A message that a session holds, and how it is given back: by a send with these credentials to this
-- queue. It may be held for this number of seconds, 0 for no limit. That the seconds pass is not stated.
pub record Message : Type 0 where
  pub cred : Cred
  pub id : ℤ
  pub mtype : ℤ
  pub seconds : ℕ
  pub text : List ℕ

-- What makes the calls of a session, and the message that the session holds.
pub record Holder (K : Type 0) : Type 0 where
  pub at : K
  pub message : Option Message

-- The seconds of the message that is held, or 0.
abbrev pub seconds_of : Option Message → ℕ
seconds_of None = 0
seconds_of (Some message) = message.seconds

-- Nothing is held.
abbrev pub empty_handed : {K : Type 0} → K → Holder K
empty_handed at = record { at = at; message = None }

-- The same, and the replies to the sends that gave back messages since the session began, since their time was
-- over, in order.
pub record Timed (K : Type 0) : Type 0 where
  pub holder : Holder K
  pub late : List Answer

abbrev pub timed : {K : Type 0} → Holder K → List Answer → Timed K
timed holder late = record { holder = holder; late = late }

-- A session begins. It holds nothing, and nothing was given back.
abbrev pub begun_with : {K : Type 0} → K → Timed K
begun_with at = timed (empty_handed at) []

-- These replies and that of one more send, if it has one.
abbrev pub late_by : List Answer → RequestOutcome → List Answer
late_by late (Reply answer) = late ++ answer ∷ []
late_by late (Got delivery) = late
late_by late Left = late

-- A session may hold one more message: it holds none, and its message has to be whole, so that it can come
-- back.
abbrev pub can_hold : Flags → Option Message → Bool
can_hold flags message = not (has_flag MSG_NOERROR flags) && not (is_some message)

-- Why a hold is refused that makes no call. If the session may hold a message, there is no memory for it.
abbrev pub why_refused : Flags → Option Message → Errno
why_refused flags message = cond (can_hold flags message) EAGAIN EINVAL

-- The outcome of a hold, by that of its receive. Its reply has the message, which the session holds, so
-- that it is neither written nor lost.
abbrev pub hold_outcome : Version → RequestOutcome → RequestOutcome
hold_outcome version (Reply answer) = reply version op.Hold answer.result
hold_outcome version (Got delivery) = reply version op.Hold (content.Hold delivery.mtype)
hold_outcome version Left = Left

-- The message that is held after a receive from this queue with this outcome.
abbrev pub held_by : Cred → ℤ → (seconds : ℕ) → RequestOutcome → List ℕ → Option Message
held_by cred id seconds (Reply answer) given = None
held_by cred id seconds (Got delivery) given =
    Some (record { cred = cred; id = id; mtype = delivery.mtype; seconds = seconds; text = given })
held_by cred id seconds Left given = None

-- The reply to a done: 0 if a message was held.
abbrev pub done_outcome : Version → Option Message → RequestOutcome
done_outcome version None = reply version op.Done (content.Refused EINVAL)
done_outcome version (Some message) = reply version op.Done content.Done

-- The outcome of a back, by that of its send.
abbrev pub back_content : ReplyContent → ReplyContent
back_content content.Snd = content.Back
back_content answer = answer

abbrev pub back_outcome : Version → RequestOutcome → RequestOutcome
back_outcome version (Reply answer) = reply version op.Back (back_content answer.result)
back_outcome version (Got delivery) = Got delivery
back_outcome version Left = Left

-- What is still held after the send of it has this outcome. A send that was left at its wait did nothing.
abbrev pub kept_by : Option Message → RequestOutcome → Option Message
kept_by held (Reply answer) = None
kept_by held (Got delivery) = None
kept_by held Left = held

-- Whether a caller may send to the queue of which `IPC_STAT` says this, and if not, why.
abbrev pub Grants : Cred → Result Attributes Errno → Result ⊤ Errno → Type 0
Grants cred (Ok stat) (Ok granted) = IsPermitted cred stat.perm Write
Grants cred (Ok stat) (Err why) = (IsPermitted cred stat.perm Write → ⊥) × (why ≡ EACCES)
Grants cred (Err refusal) (Ok granted) = ⊥
Grants cred (Err refusal) (Err why) = why ≡ refusal

-- The flags of the send that gives a message back.
abbrev pub no_flags : Flags
no_flags = record { 0 = 0 }

-- The definitions hold for any meaning of a call, of reading the released count, and of requesting
-- the row of a slot.
module _ {K : Type 0} (Comes : Going K) (ReadsReleased : ℕ → K → K → Type 0)
    (TellsRow : ℕ → K → Result (Option Line) Errno → K → Type 0) where
  -- A hold was refused, and no call was made.
  abbrev pub HoldIsRefused : Version → Flags → Holder K → RequestOutcome → List ℕ → Holder K → Type 0
  HoldIsRefused version flags before outcome given after = (after ≡ before) × (given ≡ [])
      × (outcome ≡ reply version op.Hold (content.Refused (why_refused flags before.message)))

  -- The attributes of the queue were requested, and the caller may send to it, or not for this reason. Who
  -- may not send to a queue cannot give a message back to it.
  abbrev pub AsksForWriting : Cred → ℤ → K → Result ⊤ Errno → K → Type 0
  AsksForWriting cred id before granted after = (answer : Result Attributes Errno) × (ending : Ending)
      × Ends Comes ReadsReleased TellsRow no_moment cred (MsgctlStat id) 0 before ending after
      × TellsStat ending answer × Grants cred answer granted

  -- The caller may not send to the queue, and the hold was refused for this reason.
  abbrev pub HoldIsDenied : Version → Cred → ℤ → Flags → Holder K → RequestOutcome → List ℕ → Holder K → Type 0
  HoldIsDenied version cred id flags before outcome given after =
      (can_hold flags before.message ≡ true) × (why : Errno)
      × AsksForWriting cred id before.at (Err why) after.at × (outcome ≡ reply version op.Hold (content.Refused why))
      × (after.message ≡ before.message) × (given ≡ [])

  -- A receive of the same fields ended or was left. The session holds its message, if it took one.
  abbrev pub HoldReceives : (ℕ → Type 0) → Type 0 → Version → Cred → ℤ → ℕ → ℤ → Flags → (seconds : ℕ) → Holder K →
      RequestOutcome → List ℕ → Holder K → Type 0
  HoldReceives may may_leave version cred id size mtype flags seconds before outcome given after =
      (can_hold flags before.message ≡ true) × (came : RequestOutcome) × (granted : K)
      × AsksForWriting cred id before.at (Ok tt) granted
      × Receives Comes ReadsReleased TellsRow may may_leave version cred id size mtype flags granted came given after.at
      × (outcome ≡ hold_outcome version came) × (after.message ≡ held_by cred id seconds came given)

  -- A hold was refused, before or after the attributes of its queue were requested; or its receive ended or was left.
  abbrev pub Holds : (ℕ → Type 0) → Type 0 → Version → Cred → ℤ → ℕ → ℤ → Flags → (seconds : ℕ) → Holder K →
      RequestOutcome → List ℕ → Holder K → Type 0
  Holds may may_leave version cred id size mtype flags seconds before outcome given after =
      HoldIsRefused version flags before outcome given after
      ⊎ HoldIsDenied version cred id flags before outcome given after
      ⊎ HoldReceives may may_leave version cred id size mtype flags seconds before outcome given after

  -- What was held is spent. No call was made. If nothing was held, the reply is EINVAL.
  abbrev pub Spends : Version → Holder K → RequestOutcome → List ℕ → Holder K → Type 0
  Spends version before outcome given after =
      (after ≡ empty_handed before.at) × (outcome ≡ done_outcome version before.message) × (given ≡ [])

  -- The message was sent again, and that send ended with this outcome, or its caller left it at a wait.
  abbrev pub SendsAgain : (ℕ → Type 0) → Type 0 → Message → K → RequestOutcome → K → Type 0
  SendsAgain may may_leave message before outcome after =
      Sends Comes ReadsReleased TellsRow may may_leave Three message.cred message.id message.mtype no_flags message.text
      before outcome after

  -- A back was refused, since nothing is held. No call was made.
  abbrev pub BackIsRefused : Version → Holder K → RequestOutcome → List ℕ → Holder K → Type 0
  BackIsRefused version before outcome given after = (before.message ≡ None) × (after ≡ before)
      × (outcome ≡ reply version op.Back (content.Refused EINVAL)) × (given ≡ [])

  -- What is held was sent again. With the reply to that nothing is held.
  abbrev pub BackSends : (ℕ → Type 0) → Type 0 → Version → Holder K → RequestOutcome → List ℕ → Holder K → Type 0
  BackSends may may_leave version before outcome given after = (message : Message) × (before.message ≡ Some message)
      × (came : RequestOutcome) × SendsAgain may may_leave message before.at came after.at
      × (outcome ≡ back_outcome version came) × (after.message ≡ kept_by before.message came) × (given ≡ [])

  -- A back was refused, or its send ended or was left.
  abbrev pub Backs : (ℕ → Type 0) → Type 0 → Version → Holder K → RequestOutcome → List ℕ → Holder K → Type 0
  Backs may may_leave version before outcome given after = BackIsRefused version before outcome given after
      ⊎ BackSends may may_leave version before outcome given after

  -- Any other request is one of what makes the calls. What is held stays.
  abbrev pub AsksBeside : (ℕ → Type 0) → Type 0 → Version → Cred → Ask → List ℕ → Holder K → RequestOutcome → List ℕ →
      Holder K → Type 0
  AsksBeside may may_leave version cred ask text before outcome given after =
      Asks Comes ReadsReleased TellsRow may may_leave version cred ask text before.at outcome given after.at
      × (after.message ≡ before.message)

  -- Request by request, as `Requests.Asks`, for a session that may hold a message.
  abbrev pub HoldAsks : (ℕ → Type 0) → Type 0 → Version → Cred → Ask → List ℕ → Holder K → RequestOutcome → List ℕ →
      Holder K → Type 0
  HoldAsks may may_leave version cred (Hold id size mtype flags seconds) text before outcome given after =
      Holds may may_leave version cred id size mtype flags seconds before outcome given after
  HoldAsks may may_leave version cred Done text before outcome given after = Spends version before outcome given after
  HoldAsks may may_leave version cred Back text before outcome given after =
      Backs may may_leave version before outcome given after
  HoldAsks may may_leave version cred ask text before outcome given after =
      AsksBeside may may_leave version cred ask text before outcome given after

  -- ---- the time of what is held

  -- The time of what is held was over, and it was sent again. With the reply to that nothing is held; or the send
  -- was left at a wait.
  abbrev pub Lapses : (ℕ → Type 0) → Timed K → RequestOutcome → Timed K → Type 0
  Lapses may before outcome after = (message : Message) × (before.holder.message ≡ Some message)
      × (1 ≤ message.seconds) × SendsAgain may ⊤ message before.holder.at outcome after.holder.at
      × (after.holder.message ≡ kept_by before.holder.message outcome) × (after.late ≡ late_by before.late outcome)

  -- That happened any number of times, with these outcomes.
  abbrev pub LapsesTo : (ℕ → Type 0) → Timed K → Timed K → Type 0
  LapsesTo may before after = (outcomes : List RequestOutcome) × FoldsTo (Lapses may) before outcomes after

  -- Request by request. The time of what is held may have been over before it.
  abbrev pub TimedAsks : (ℕ → Type 0) → Type 0 → Version → Cred → Ask → List ℕ → Timed K → RequestOutcome → List ℕ →
      Timed K → Type 0
  TimedAsks may may_leave version cred ask text before outcome given after =
      (mid : Timed K) × LapsesTo may before mid
      × HoldAsks may may_leave version cred ask text mid.holder outcome given after.holder × (after.late ≡ mid.late)

  -- ---- the end of a session

  -- The message was sent again, and that send ended with this outcome, or was left at a wait.
  abbrev pub IsReturn : (ℕ → Type 0) → Message → K → RequestOutcome → K → Type 0
  IsReturn may message before outcome after = SendsAgain may ⊤ message before outcome after

  -- What follows a session: nothing if it held nothing at its end, or the return of what it held.
  abbrev pub GivesBack : (ℕ → Type 0) → Holder K → Option RequestOutcome → K → Type 0
  GivesBack may before None after = (before.message ≡ None) × (after ≡ before.at)
  GivesBack may before (Some outcome) after =
      (message : Message) × (before.message ≡ Some message) × IsReturn may message before.at outcome after
