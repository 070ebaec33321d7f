-- What becomes of a request of a session (this project's profile). The request is one call of a
-- service with these credentials, or requests a row, and the outcome reports how that ended
-- (POSIX.1-2017, msgget, msgsnd, msgrcv and msgctl).
use Rattle.std.specs.Prelude.{◌≡◌, ◌⊎◌, ℕ, ℤ, ⊤, List, [], Option, Result}
use Rattle.sysv_model.specs.declared.attributes.Row.{Row as Line}
use Rattle.sysv_model.specs.declared.attributes.Stat.{Stat as Attributes}
use Rattle.sysv_model.specs.declared.attributes.SetTo.{SetTo}
use Rattle.sysv_model.specs.declared.cred.Cred.{Cred}
use Rattle.sysv_model.specs.declared.errno.Errno.{Errno}
use Rattle.sysv_model.specs.declared.errno.Errno.TheVariants.{EINVAL}
use Rattle.sysv_model.specs.declared.flags.Flags.{Flags}
use Rattle.sysv_queue.specs.Delivery.{Given}
use Rattle.sysv_session.specs.declared.handler.RequestOutcome.{RequestOutcome}
use Rattle.sysv_session.specs.declared.handler.RequestOutcome.TheVariants.{Left}
use Rattle.sysv_steps.specs.Stepping.{no_moment}
use Rattle.sysv_service.specs.Told.{TellsId, TellsZero, TellsStat, TellsGot}
use Rattle.sysv_steps.specs.Call.{SystemCall, Msgget, Msgsnd, Msgrcv, MsgctlStat, MsgctlSet, MsgctlRmid, kind_of}
use Rattle.sysv_steps.specs.State.{Ending, State, Wait, Waits, Over}
use Rattle.sysv_wire.specs.declared.frame.Op.{Op}
use Rattle.sysv_wire.specs.declared.frame.Op.TheVariants as op
use Rattle.sysv_wire.specs.declared.frame.Version.{Version}
use Rattle.sysv_wire.specs.declared.reply.ReplyContent.TheVariants as content
use Rattle.sysv_wire.specs.declared.request.Ask.{Ask}
use Rattle.sysv_wire.specs.declared.request.Ask.TheVariants.{Hello, Get, Snd, Rcv, Stat, Set, Rm, Row, Hold, Done, Back}
use Rattle.sysv_seats.specs.Replies.{reply, id_reply, done_reply, given_reply, stat_reply, row_reply}

-- How a call goes: the times that its steps may have, the caller's credentials, the call, the
-- released count that it starts with, the handler before, the state that the call reached, and the
-- handler after.
abbrev pub Going : Type 0 → Type 1
Going K = (ℕ → Type 0) → Cred → (asked : SystemCall) → ℕ → K → State (kind_of asked) → K → Type 0

-- The definitions hold for any meaning of a call, of reading the released count, and of requesting
-- the row of a slot.
module _ {K : Type 0} (Comes : Going K) (ReadsReleased : ℕ → K → K → Type 0)
    (TellsRow : ℕ → K → Result (Option Line) Errno → K → Type 0) where
  -- The call ended this way.
  abbrev pub Ends : (ℕ → Type 0) → Cred → SystemCall → ℕ → K → Ending → K → Type 0
  Ends may cred asked released before ending after = Comes may cred asked released before (Over ending) after

  -- The caller may have left, and the call was left at a wait.
  abbrev pub IsLeft : Type 0 → (ℕ → Type 0) → Cred → SystemCall → ℕ → K → K → Type 0
  IsLeft may_leave may cred asked released before after =
      may_leave × (wait : Wait (kind_of asked)) × Comes may cred asked released before (Waits wait) after

  -- A `msgget` ended, and the outcome is the reply with its result.
  abbrev pub GetIsOver : (ℕ → Type 0) → Version → Cred → ℤ → Flags → K → RequestOutcome → K → Type 0
  GetIsOver may version cred key flags before outcome after = (answer : Result ℤ Errno) × (ending : Ending)
      × Ends may cred (Msgget key flags) 0 before ending after × TellsId ending answer
      × (outcome ≡ id_reply version answer)

  -- The caller left a `msgget` while it waited, and it has no reply.
  abbrev pub GetIsLeft : (ℕ → Type 0) → Type 0 → Cred → ℤ → Flags → K → RequestOutcome → K → Type 0
  GetIsLeft may may_leave cred key flags before outcome after =
      IsLeft may_leave may cred (Msgget key flags) 0 before after × (outcome ≡ Left)

  -- A `msgget` ended or was left.
  abbrev pub Gets : (ℕ → Type 0) → Type 0 → Version → Cred → ℤ → Flags → K → RequestOutcome → K → Type 0
  Gets may may_leave version cred key flags before outcome after =
      GetIsOver may version cred key flags before outcome after
      ⊎ GetIsLeft may may_leave cred key flags before outcome after

  -- A `msgsnd` of the body ended, and the outcome is the reply with its result.
  abbrev pub SendIsOver : (ℕ → Type 0) → Version → Cred → ℤ → ℤ → Flags → List ℕ → ℕ → K → RequestOutcome → K → Type 0
  SendIsOver may version cred id mtype flags text released mid outcome after =
      (answer : Result ⊤ Errno) × (ending : Ending)
      × Ends may cred (Msgsnd id mtype flags text) released mid ending after × TellsZero ending answer
      × (outcome ≡ done_reply version op.Snd content.Snd answer)

  -- The caller left a `msgsnd` while it waited, and it has no reply.
  abbrev pub SendIsLeft : (ℕ → Type 0) → Type 0 → Version → Cred → ℤ → ℤ → Flags → List ℕ → ℕ → K → RequestOutcome → K →
      Type 0
  SendIsLeft may may_leave version cred id mtype flags text released mid outcome after =
      IsLeft may_leave may cred (Msgsnd id mtype flags text) released mid after × (outcome ≡ Left)

  -- A `msgsnd` read the released count at its start, and then ended or was left.
  abbrev pub Sends : (ℕ → Type 0) → Type 0 → Version → Cred → ℤ → ℤ → Flags → List ℕ → K → RequestOutcome → K → Type 0
  Sends may may_leave version cred id mtype flags text before outcome after = (released : ℕ) × (mid : K)
      × ReadsReleased released before mid
      × (SendIsOver may version cred id mtype flags text released mid outcome after
      ⊎ SendIsLeft may may_leave version cred id mtype flags text released mid outcome after)

  -- A `msgrcv` ended, and the outcome is its message, whose body is `given`, or the reply with its
  -- error.
  abbrev pub ReceiveIsOver : (ℕ → Type 0) → Version → Cred → ℤ → ℕ → ℤ → Flags → K → RequestOutcome → List ℕ → K →
      Type 0
  ReceiveIsOver may version cred id size mtype flags before outcome given after =
      (answer : Result Given Errno) × (ending : Ending)
      × Ends may cred (Msgrcv id size mtype flags) 0 before ending after × TellsGot ending answer given
      × (outcome ≡ given_reply version answer)

  -- The caller left a `msgrcv` while it waited. There is no body, and it has no reply.
  abbrev pub ReceiveIsLeft : (ℕ → Type 0) → Type 0 → Version → Cred → ℤ → ℕ → ℤ → Flags → K → RequestOutcome → List ℕ →
      K → Type 0
  ReceiveIsLeft may may_leave version cred id size mtype flags before outcome given after =
      IsLeft may_leave may cred (Msgrcv id size mtype flags) 0 before after × (given ≡ []) × (outcome ≡ Left)

  -- A `msgrcv` ended or was left.
  abbrev pub Receives : (ℕ → Type 0) → Type 0 → Version → Cred → ℤ → ℕ → ℤ → Flags → K → RequestOutcome → List ℕ → K →
      Type 0
  Receives may may_leave version cred id size mtype flags before outcome given after =
      ReceiveIsOver may version cred id size mtype flags before outcome given after
      ⊎ ReceiveIsLeft may may_leave version cred id size mtype flags before outcome given after

  -- A `msgctl` with `IPC_STAT` ended, and the outcome is the reply with its result. Its steps have
  -- no time.
  abbrev pub Stats : Version → Cred → ℤ → K → RequestOutcome → K → Type 0
  Stats version cred id before outcome after = (answer : Result Attributes Errno) × (ending : Ending)
      × Ends no_moment cred (MsgctlStat id) 0 before ending after × TellsStat ending answer
      × (outcome ≡ stat_reply version answer)

  -- A `msgctl` with `IPC_SET` ended, and the outcome is the reply with its result.
  abbrev pub Sets : (ℕ → Type 0) → Version → Cred → ℤ → SetTo → K → RequestOutcome → K → Type 0
  Sets may version cred id to before outcome after = (answer : Result ⊤ Errno) × (ending : Ending)
      × Ends may cred (MsgctlSet id to) 0 before ending after × TellsZero ending answer
      × (outcome ≡ done_reply version op.Set content.Set answer)

  -- A `msgctl` with `IPC_RMID` ended, and the outcome is the reply with its result. Its steps have
  -- no time.
  abbrev pub Removes : Version → Cred → ℤ → K → RequestOutcome → K → Type 0
  Removes version cred id before outcome after = (answer : Result ⊤ Errno) × (ending : Ending)
      × Ends no_moment cred (MsgctlRmid id) 0 before ending after × TellsZero ending answer
      × (outcome ≡ done_reply version op.Rm content.Rm answer)

  -- The row of a slot was requested, and the outcome is the reply with the result.
  abbrev pub Shows : Version → ℕ → K → RequestOutcome → K → Type 0
  Shows version slot before outcome after =
      (answer : Result (Option Line) Errno) × TellsRow slot before answer after × (outcome ≡ row_reply version answer)

  -- The handler has no memory for messages, and refused an operation that holds one. No call was made.
  abbrev pub IsRefused : Version → Op → K → RequestOutcome → K → Type 0
  IsRefused version o before outcome after = (after ≡ before) × (outcome ≡ reply version o (content.Refused EINVAL))

  -- Request by request, in a version. `text` is the body of a send, and `given` is the body of a
  -- received message and otherwise empty. The times are those that the clock may return. A get, a
  -- send and a receive that wait may be left if the caller may leave. A hello is no request to a
  -- handler.
  abbrev pub Asks : (ℕ → Type 0) → Type 0 → Version → Cred → Ask → List ℕ → K → RequestOutcome → List ℕ → K → Type 0
  Asks may may_leave version cred (Hello other) text before outcome given after = ⊥
  Asks may may_leave version cred (Get key flags) text before outcome given after =
      Gets may may_leave version cred key flags before outcome after × (given ≡ [])
  Asks may may_leave version cred (Snd id mtype flags) text before outcome given after =
      Sends may may_leave version cred id mtype flags text before outcome after × (given ≡ [])
  Asks may may_leave version cred (Rcv id size mtype flags) text before outcome given after =
      Receives may may_leave version cred id size mtype flags before outcome given after
  Asks may may_leave version cred (Stat id) text before outcome given after =
      Stats version cred id before outcome after × (given ≡ [])
  Asks may may_leave version cred (Set id to) text before outcome given after =
      Sets may version cred id to before outcome after × (given ≡ [])
  Asks may may_leave version cred (Rm id) text before outcome given after =
      Removes version cred id before outcome after × (given ≡ [])
  Asks may may_leave version cred (Row slot) text before outcome given after =
      Shows version slot before outcome after × (given ≡ [])
  Asks may may_leave version cred (Hold id size mtype flags seconds) text before outcome given after =
      IsRefused version op.Hold before outcome after × (given ≡ [])
  Asks may may_leave version cred Done text before outcome given after =
      IsRefused version op.Done before outcome after × (given ≡ [])
  Asks may may_leave version cred Back text before outcome given after =
      IsRefused version op.Back before outcome after × (given ≡ [])
