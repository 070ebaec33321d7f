-- Which calls may wait: a send or a receive without IPC_NOWAIT (POSIX.1-2017, msgsnd and msgrcv,
-- DESCRIPTION), and a msgget, which waits while another call makes the queue of its key (this
-- project's profile). A msgctl never waits.
use Rattle.std.specs.Prelude.{◌≡◌, ℕ, false, List}
use Rattle.sysv_model.specs.declared.cred.Cred.{Cred}
use Rattle.sysv_model.specs.Turn.{Op}
use Rattle.sysv_steps.specs.Call.{kind_of}
use Rattle.sysv_steps.specs.Call.{SystemCall, Msgget, Msgsnd, Msgrcv, MsgctlStat, MsgctlSet, MsgctlRmid}
use Rattle.sysv_steps.specs.State.{Wait, Waits}
use Rattle.sysv_steps.specs.Begin.{begin}
use Rattle.sysv_steps.specs.Played.{Plays}
use Rattle.sysv_steps.specs.Answers.{does_not_wait}

-- The call may wait.
abbrev pub MayWait : SystemCall → Type 0
MayWait (Msgget key flags) = Unit {0}
MayWait (Msgsnd id mtype flags text) = does_not_wait flags ≡ false
MayWait (Msgrcv id size mtype flags) = does_not_wait flags ≡ false
MayWait (MsgctlStat id) = ⊥
MayWait (MsgctlSet id to) = ⊥
MayWait (MsgctlRmid id) = ⊥

-- Each call that plays to a wait may wait.
abbrev pub EachWaitsWhereItMay : Type 0
EachWaitsWhereItMay = (cred : Cred) (asked : SystemCall) (released : ℕ) (ops : List Op) (wait : Wait (kind_of asked)) →
    Plays (begin cred asked released) ops (Waits wait) → MayWait asked
