use Rattle.std.proofs.Common.{ℕ, List}
use Rattle.sysv_model.specs.declared.cred.Cred.{Cred}
use Rattle.sysv_model.specs.Turn.{Op}
use Rattle.sysv_steps.specs.Call.{SystemCall, Msgget, Msgsnd, Msgrcv, MsgctlStat, MsgctlSet, MsgctlRmid}
use Rattle.sysv_steps.specs.State.{Ending, Over}
use Rattle.sysv_steps.specs.Begin.{begin}
use Rattle.sysv_steps.specs.Played.{Plays}
use Rattle.sysv_steps.specs.Answers.{IsRightAnswer}
use Rattle.sysv_steps.proofs.Controls.{stat_at, set_at, removal_at}
use Rattle.sysv_steps.proofs.Gets.{get_at}
use Rattle.sysv_steps.proofs.Sends.{send_at}
use Rattle.sysv_steps.proofs.Receives.{receive_at}
use Rattle.sysv_steps.proofs.laws.each_answer_is_right.Goals as goal

right : (cred : Cred) (asked : SystemCall) (released : ℕ) (ops : List Op) (ending : Ending) →
    Plays (begin cred asked released) ops (Over ending) → IsRightAnswer asked ops ending
right cred (Msgsnd id mtype flags text) released ops ending p =
    send_at id mtype flags text cred released ops (Over ending) p
right cred (Msgrcv id size mtype flags) released ops ending p =
    receive_at id size mtype flags cred released ops (Over ending) p
right cred (Msgget key flags) released ops ending p = get_at key flags cred released ops (Over ending) p
right cred (MsgctlStat id) released ops ending p = stat_at id cred released ops (Over ending) p
right cred (MsgctlSet id to) released ops ending p = set_at id to cred released ops (Over ending) p
right cred (MsgctlRmid id) released ops ending p = removal_at id cred released ops (Over ending) p

pub returns : goal.returns
returns c = right
