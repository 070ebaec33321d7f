-- Permission. A message is accepted or taken, a queue is found, changed or removed, and its
-- attributes are reported, only if the queue is live and its permissions at that turn allow it to
-- the caller. The queue and its permissions are those that the earlier turns at its slot left. The
-- caller of a turn has the credentials with which its call was started (POSIX.1-2017, 2.7.1 IPC
-- General Description; msgget, msgsnd, msgrcv and msgctl, each ERRORS).
use Rattle.std.specs.Prelude.{◌≡◌, ℕ, List, ◌∷◌, ◌++◌, Option, Some, None, All}
use Rattle.sysv_model.specs.declared.cred.Cred.{Cred}
use Rattle.sysv_model.specs.History.{Call, Install, Probe, Look, Place, Take, ReadStat, Set, Remove, ReadRow, Reply}
use Rattle.sysv_model.specs.History.{Granted, Accepted, Taken, Told, Done, Discarded, Entry, History}
use Rattle.sysv_model.specs.Live.{live, IsLive}
use Rattle.sysv_model.specs.Turn.{Op, AtSlot, Turn, slot_history, ops_of}
use Rattle.sysv_model.specs.Turns.{Numbered, turns_of}
use Rattle.sysv_queue.specs.Granted.{MayRead, MayWrite, MayAsAsked, MayControl, MayLimit}
use Rattle.sysv_objects.specs.LegalOp.{AreLegal}
use Rattle.sysv_core.specs.World.{World, Opening, Invocation, Transition, Response, opening}
use Rattle.sysv_core.specs.Run.{Leads}
use Rattle.sysv_thread_laws.specs.Execution.{Moment, LeadsOnThreads}
use Rattle.sysv_thread_laws.specs.Order.{Called, AreAll}

-- ---- one turn

-- What a request needs to succeed, after this history. A send needs write permission, a receive and
-- IPC_STAT need read permission, and msgget needs each permission that its flags request. IPC_SET
-- and IPC_RMID need a caller who may control the queue, and only user 0 may raise its limit. Each
-- of them needs a queue that is live under the identifier. Other requests need no permission, and
-- neither does one that fails.
abbrev pub IsAllowed : History → Call → Reply → Type 0
IsAllowed h (Place id cred mtype bytes now) (Accepted number) = IsLive h id × MayWrite cred (live h)
IsAllowed h (Take id cred selector size noerror now) (Taken m) = IsLive h id × MayRead cred (live h)
IsAllowed h (ReadStat id cred) (Told stat) = IsLive h id × MayRead cred (live h)
IsAllowed h (Probe id cred flags) Granted = IsLive h id × MayAsAsked flags cred (live h)
IsAllowed h (Set id cred to now) Done = IsLive h id × MayControl cred (live h) × MayLimit cred to (live h)
IsAllowed h (Remove id cred) (Discarded messages) = IsLive h id × MayControl cred (live h)
IsAllowed h call reply = Unit {0}

-- Each entry of the history was allowed by what the entries before it left.
abbrev pub AreAllowed : History → Type 0
AreAllowed h =
    (before : History) (e : Entry) (after : History) → h ≡ before ++ e ∷ after → IsAllowed before e.call e.reply

-- ---- the caller

-- The credentials of a request. Reading a row has none.
abbrev pub credentials_of : Call → Option Cred
credentials_of (Install id key cred mode now) = Some cred
credentials_of (Probe id cred flags) = Some cred
credentials_of (Look id cred size) = Some cred
credentials_of (Place id cred mtype bytes now) = Some cred
credentials_of (Take id cred selector size noerror now) = Some cred
credentials_of (ReadStat id cred) = Some cred
credentials_of (Set id cred to now) = Some cred
credentials_of (Remove id cred) = Some cred
credentials_of ReadRow = None

-- An operation at a slot was requested with these credentials.
abbrev pub IsUnder : Cred → Op → Type 0
IsUnder cred (AtSlot slot call reply) = credentials_of call ≡ Some cred
IsUnder cred op = Unit {0}

-- ---- the law

-- What holds of the turns of these calls: each turn at a slot was allowed, and the turns of a call
-- were requested with the credentials of that call.
pub record ArePermitted (calls : List Invocation) (turns : List Turn) : Type 0 where
  pub allowed : (slot : ℕ) → AreAllowed (slot_history slot turns)
  pub own : All (λ (c : Invocation). All (IsUnder c.cred) (ops_of c.who turns)) calls

-- This holds of every world to which a run leads.
abbrev pub EveryRunIsPermitted : Type 0
EveryRunIsPermitted = (o : Opening) (list : List Transition) (responses : List Response) (w : World) →
    Leads (opening o) list responses w → ArePermitted w.calls w.turns

-- The same of an execution.
abbrev pub EveryThreadedRunIsPermitted : Type 0
EveryThreadedRunIsPermitted = (o : Opening) (list : List Moment) (responses : List Response) (w : World) →
    LeadsOnThreads (opening o) list responses w → ArePermitted w.calls w.turns

-- The same of an order of turns with the calls that its passes made.
pub record IsPermittedOrder (order : List Numbered) (calls : List Called) : Type 0 where
  pub allowed : (slot : ℕ) → AreAllowed (slot_history slot (turns_of order))
  pub own : All (λ (c : Called). All (IsUnder c.cred) c.ops) calls

-- This holds of every order of turns with legal replies.
abbrev pub EveryOrderIsPermitted : Type 0
EveryOrderIsPermitted = (generation blocks : ℕ) (order : List Numbered) (calls : List Called) →
    AreLegal generation blocks (turns_of order) → AreAll order calls → IsPermittedOrder order calls
