-- The state of a call (this project's profile): before a step, which is one turn at one object; in
-- a wait for a count; or over. The steps and the waits of each kind of call are a type of their own.
use Rattle.std.specs.Prelude.{ℕ, ℤ, Bool, List}
use Rattle.sysv_model.specs.declared.cred.Cred.{Cred}
use Rattle.sysv_model.specs.declared.errno.Errno.{Errno}
use Rattle.sysv_model.specs.declared.flags.Flags.{Flags}
use Rattle.sysv_model.specs.declared.attributes.Stat.{Stat}
use Rattle.sysv_model.specs.declared.attributes.SetTo.{SetTo}
use Rattle.sysv_model.specs.declared.selector.Selector.{Selector}
use Rattle.sysv_steps.specs.Call.{Kind, Gets, Sends, Receives, Stats, Sets, Removes}

-- What a call holds that finds the queue of a key or makes one.
pub record Getting : Type 0 where
  pub cred : Cred
  pub key : ℤ
  pub flags : Flags

-- What a send holds.
pub record Sending : Type 0 where
  pub cred : Cred
  pub id : ℤ
  pub mtype : ℤ
  pub text : List ℕ
  pub nowait : Bool  -- it does not wait for room
  pub released : ℕ  -- the released count as it read it last, at its start or at the end of a wait for it
  pub seen : Bool  -- an earlier turn of the call found the identifier live

-- What a receive holds.
pub record Receiving : Type 0 where
  pub cred : Cred
  pub id : ℤ
  pub selector : Selector
  pub size : ℕ
  pub noerror : Bool  -- a longer text may be cut
  pub nowait : Bool  -- it does not wait for a message
  pub seen : Bool  -- an earlier turn of the call found the identifier live

-- A wait of a call of this kind until a count is at least the goal, with what the call holds when it
-- continues. A msgctl never waits.
pub data Wait : Kind → Type 0 where
  OnSettled : (goal : ℕ) (get : Getting) → Wait Gets
  OnFreed : (goal : ℕ) (send : Sending) → Wait Sends
  OnReleased : (goal : ℕ) (send : Sending) → Wait Sends
  OnArrived : (goal : ℕ) (receive : Receiving) → Wait Receives

-- What a call of this kind does that cannot continue: it fails or it waits.
pub data Afterwards (kind : Kind) : Type 0 where
  IsRefused : (why : Errno) → Afterwards kind
  WaitsOn : (wait : Wait kind) → Afterwards kind

-- The step before which a call of this kind is, by what the step does.
pub data Phase : Kind → Type 0 where
  -- Of msgget. The last forgets an identifier whose slot was occupied.
  AtBegin : (get : Getting) → Phase Gets
  AtInstall : (get : Getting) (id : ℤ) → Phase Gets
  AtSettle : (id : ℤ) → Phase Gets
  AtProbe : (get : Getting) (id : ℤ) (settled : ℕ) → Phase Gets
  AtUnmake : (id : ℤ) → Phase Gets
  -- Of msgsnd, with the number of blocks of the chain that it holds.
  AtLook : (send : Sending) → Phase Sends
  AtReserve : (send : Sending) → Phase Sends
  AtPlace : (send : Sending) (blocks : ℕ) → Phase Sends
  AtSendGiveback : (blocks : ℕ) (afterwards : Afterwards Sends) → Phase Sends
  -- Of msgrcv, with the number of blocks of the message that it took, and the type and bytes that
  -- it returns.
  AtTake : (receive : Receiving) → Phase Receives
  AtReceiveGiveback : (blocks : ℕ) (mtype : ℤ) (text : List ℕ) → Phase Receives
  -- Of msgctl, with the number of blocks of the messages that a removal discarded.
  AtStat : (cred : Cred) (id : ℤ) → Phase Stats
  AtSet : (cred : Cred) (id : ℤ) (to : SetTo) → Phase Sets
  AtSetGiveback : Phase Sets
  AtRemove : (cred : Cred) (id : ℤ) → Phase Removes
  AtForget : (id : ℤ) (blocks : ℕ) → Phase Removes
  AtRemoveGiveback : (blocks : ℕ) → Phase Removes

-- How a call ends.
pub data Ending : Type 0 where
  -- It returns an identifier.
  Id : (id : ℤ) → Ending
  -- It succeeds and returns no value.
  Zero : Ending
  -- It returns a message: its type, and at most the requested number of bytes of its body.
  Got : (mtype : ℤ) (text : List ℕ) → Ending
  -- It returns the attributes of a queue.
  Told : (stat : Stat) → Ending
  -- It fails with an error.
  Refused : (why : Errno) → Ending

-- The state of a call of this kind: before a step, in a wait, or over.
pub data State (kind : Kind) : Type 0 where
  Goes : (phase : Phase kind) → State kind
  Waits : (wait : Wait kind) → State kind
  Over : (ending : Ending) → State kind
