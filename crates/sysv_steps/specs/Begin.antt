-- The start of a call. A call whose own arguments are refused fails at once with EINVAL
-- (POSIX.1-2017, msgsnd and msgrcv, ERRORS). Any other call goes to its first step. A send reads
-- the released count at its start.
use Rattle.std.specs.Prelude.{ℕ, pos, ◌||◌, Bool, false, length, int_lt, nat_lt, if◌then◌else◌}
use Rattle.sysv_model.specs.declared.cred.Cred.{Cred}
use Rattle.sysv_model.specs.declared.errno.Errno.TheVariants.{EINVAL}
use Rattle.sysv_model.specs.declared.flags.TheConstants.Flags.{IPC_NOWAIT, MSG_NOERROR}
use Rattle.sysv_model.specs.declared.limits.TheConstants.{MESSAGE_BYTES}
use Rattle.sysv_model.specs.HasFlag.{has_flag}
use Rattle.sysv_model.specs.Selector.{selector_for}
use Rattle.sysv_steps.specs.Call.{SystemCall, Msgget, Msgsnd, Msgrcv, MsgctlStat, MsgctlSet, MsgctlRmid, kind_of}
use Rattle.sysv_steps.specs.State.{Phase, AtBegin, AtLook, AtTake, AtStat, AtSet, AtRemove, State, Goes, Over, Refused}

-- The call's own arguments are refused: a type below 1, a body of more than 8,192 bytes, or an
-- identifier below 0. Those of a msgget never are.
abbrev pub is_refused : SystemCall → Bool
is_refused (Msgget key flags) = false
is_refused (Msgsnd id mtype flags text) =
    int_lt mtype (pos 1) || nat_lt MESSAGE_BYTES (length text) || int_lt id (pos 0)
is_refused (Msgrcv id size mtype flags) = int_lt id (pos 0)
is_refused (MsgctlStat id) = int_lt id (pos 0)
is_refused (MsgctlSet id to) = int_lt id (pos 0)
is_refused (MsgctlRmid id) = int_lt id (pos 0)

-- The first step of a call.
abbrev pub first : Cred → (call : SystemCall) → ℕ → Phase (kind_of call)
first cred (Msgget key flags) released = AtBegin record { cred = cred; key = key; flags = flags }
first cred (Msgsnd id mtype flags text) released =
    AtLook record {
      cred = cred;
      id = id;
      mtype = mtype;
      text = text;
      nowait = has_flag IPC_NOWAIT flags;
      released = released;
      seen = false;
    }
first cred (Msgrcv id size mtype flags) released =
    AtTake record {
      cred = cred;
      id = id;
      selector = selector_for mtype flags;
      size = size;
      noerror = has_flag MSG_NOERROR flags;
      nowait = has_flag IPC_NOWAIT flags;
      seen = false;
    }
first cred (MsgctlStat id) released = AtStat cred id
first cred (MsgctlSet id to) released = AtSet cred id to
first cred (MsgctlRmid id) released = AtRemove cred id

-- The state of a call at its start.
abbrev pub begin : Cred → (call : SystemCall) → ℕ → State (kind_of call)
begin cred call released = if is_refused call then Over (Refused EINVAL) else Goes (first cred call released)
