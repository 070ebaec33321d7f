-- The history of a slot: one entry per turn at the slot, in order. An entry states who made the
-- turn, the call with its arguments and time, and the reply. The nine calls are this profile's;
-- they carry out msgget, msgsnd, msgrcv and msgctl of POSIX.1-2017.
use Rattle.std.specs.Prelude.{ℕ, ℤ, Bool, true, false, List, [], ◌∷◌, ◌++◌, Option, count_by}
use Rattle.sysv_model.specs.declared.errno.Errno.{Errno}
use Rattle.sysv_model.specs.declared.cred.Cred.{Cred}
use Rattle.sysv_model.specs.declared.flags.Flags.{Flags}
use Rattle.sysv_model.specs.declared.attributes.Stat.{Stat}
use Rattle.sysv_model.specs.declared.attributes.SetTo.{SetTo}
use Rattle.sysv_model.specs.declared.attributes.Row.{Row}
use Rattle.sysv_model.specs.declared.selector.Selector.{Selector}
use Rattle.sysv_model.specs.Message.{Message}

-- Who makes a turn. Either an actor of a world, in the call that it started at the step number
-- `start`, or a seat with this number on threads. Actors are numbered from 1. The preset queue is
-- created by actor 0 at start 0.
pub data Who : Type 0 where
  Actor : (actor start : ℕ) → Who
  Seat : (number : ℕ) → Who

-- The calls with their arguments.
pub data Call : Type 0 where
  Install : (id key : ℤ) (cred : Cred) (mode now : ℕ) → Call
  Probe : (id : ℤ) (cred : Cred) (flags : Flags) → Call
  Look : (id : ℤ) (cred : Cred) (size : ℕ) → Call
  Place : (id : ℤ) (cred : Cred) (mtype : ℤ) (bytes : List ℕ) (now : ℕ) → Call
  Take : (id : ℤ) (cred : Cred) (selector : Selector) (size : ℕ) (noerror : Bool) (now : ℕ) → Call
  ReadStat : (id : ℤ) (cred : Cred) → Call
  Set : (id : ℤ) (cred : Cred) (to : SetTo) (now : ℕ) → Call
  Remove : (id : ℤ) (cred : Cred) → Call
  ReadRow : Call

-- The replies of all calls. The definition of the legal reply states which of them a call may have.
pub data Reply : Type 0 where
  Installed : (made : Bool) → Reply
  Gone : Reply
  Denied : Reply
  Granted : Reply
  Full : (freed : ℕ) → Reply
  Fits : Reply
  Accepted : (number : ℕ) → Reply
  NoMatch : (arrived : ℕ) → Reply
  TooLong : Reply
  Taken : (message : Message) → Reply
  Told : (stat : Stat) → Reply
  Done : Reply
  Discarded : (messages : List Message) → Reply
  Refused : (why : Errno) → Reply
  Shown : (row : Option Row) → Reply

-- One turn at a slot.
pub record Entry : Type 0 where
  pub who : Who
  pub call : Call
  pub reply : Reply

-- The turns at one slot, in order.
abbrev pub History : Type 0
History = List Entry

-- The history h with one more turn at its end.
abbrev pub then_turn : History → Who → Call → Reply → History
then_turn h who call reply = h ++ record { who = who; call = call; reply = reply } ∷ []

-- The turns that raise the arrived count, for which receives wait: a message was accepted, or the
-- queue was set or removed.
abbrev pub announces_arrival : Call → Reply → Bool
announces_arrival (Place id cred mtype bytes now) (Accepted number) = true
announces_arrival (Set id cred to now) Done = true
announces_arrival (Remove id cred) (Discarded messages) = true
announces_arrival call reply = false

-- The turns that raise the freed count, for which sends wait: a message was taken, or the queue was
-- set or removed.
abbrev pub announces_room : Call → Reply → Bool
announces_room (Take id cred selector size noerror now) (Taken message) = true
announces_room (Set id cred to now) Done = true
announces_room (Remove id cred) (Discarded messages) = true
announces_room call reply = false

-- The arrived count: the number of turns that raise it, over all queues that the slot has held.
abbrev pub arrived : History → ℕ
arrived h = count_by (λ (e : Entry). announces_arrival e.call e.reply) h

-- The freed count: the number of turns that raise it, over all queues that the slot has held.
abbrev pub freed : History → ℕ
freed h = count_by (λ (e : Entry). announces_room e.call e.reply) h
