-- The System V message queue calls, with their arguments, and the six kinds of calls (POSIX.1-2017,
-- msgget, msgsnd, msgrcv and msgctl; msgctl has its three commands).
use Rattle.std.specs.Prelude.{ℕ, ℤ, List}
use Rattle.sysv_model.specs.declared.flags.Flags.{Flags}
use Rattle.sysv_model.specs.declared.attributes.SetTo.{SetTo}

pub data SystemCall : Type 0 where
  Msgget : (key : ℤ) (flags : Flags) → SystemCall
  Msgsnd : (id mtype : ℤ) (flags : Flags) (text : List ℕ) → SystemCall
  Msgrcv : (id : ℤ) (size : ℕ) (mtype : ℤ) (flags : Flags) → SystemCall
  MsgctlStat : (id : ℤ) → SystemCall
  MsgctlSet : (id : ℤ) (to : SetTo) → SystemCall
  MsgctlRmid : (id : ℤ) → SystemCall

-- The kinds of calls. Each has its own steps, its own waits and its own results.
pub data Kind : Type 0 where
  Gets : Kind
  Sends : Kind
  Receives : Kind
  Stats : Kind
  Sets : Kind
  Removes : Kind

-- The kind of a call.
abbrev pub kind_of : SystemCall → Kind
kind_of (Msgget key flags) = Gets
kind_of (Msgsnd id mtype flags text) = Sends
kind_of (Msgrcv id size mtype flags) = Receives
kind_of (MsgctlStat id) = Stats
kind_of (MsgctlSet id to) = Sets
kind_of (MsgctlRmid id) = Removes
