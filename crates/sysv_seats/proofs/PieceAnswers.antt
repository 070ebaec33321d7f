-- What a handler may return for a get, a send and a receive in pieces.
use Rattle.std.proofs.Common.{ℕ, ℤ, List, [], Result, Ok, Err, inl, inr, refl, sym, subst, arith}
use Rattle.std.specs.Prelude.{⊤}
use Rattle.sysv_model.specs.declared.errno.Errno.{Errno}
use Rattle.sysv_model.specs.declared.flags.Flags.{Flags}
use Rattle.sysv_queue.specs.Delivery.{Given}
use Rattle.sysv_session.specs.declared.handler.RequestOutcome.{RequestOutcome}
use Rattle.sysv_service.specs.declared.progress.Progress.{Progress}
use Rattle.sysv_service.specs.declared.progress.Progress.TheVariants as progress
use Rattle.sysv_steps.specs.declared.get.GetWait.{GetWait}
use Rattle.sysv_steps.specs.declared.receive.ReceiveWait.{ReceiveWait}
use Rattle.sysv_steps.specs.declared.send.SendWait.{SendWait}
use Rattle.sysv_service.specs.Ran.{Pass}
use Rattle.sysv_service.specs.Told.{TellsGot}
use Rattle.sysv_service.specs.Pending.{ReceivesOn}
use Rattle.sysv_steps.specs.Call.{Receives}
use Rattle.sysv_steps.specs.State.{State, Ending, Got, Refused}
use Rattle.sysv_wire.specs.declared.frame.Version.{Version}
use Rattle.sysv_wire.specs.declared.request.Ask.{Ask}
use Rattle.sysv_wire.specs.declared.request.Ask.TheVariants.{Get as AskGet, Snd, Rcv}
use Rattle.sysv_steps.specs.declared.pending.Waiting.{Waiting}
use Rattle.sysv_steps.specs.declared.pending.Waiting.TheVariants.{Send, Receive, Get}
use Rattle.sysv_seats.specs.Parked.{GoesOn, IsWaitOf, MayProgress, get_progress, send_progress, receive_progress}
use Rattle.sysv_seats.specs.Replies.{given_reply}
use Rattle.sysv_session.specs.Answers.{MayAnswer}

pub get_answers : (version : Version) (key : ℤ) (flags : Flags) (came : Progress GetWait (Result ℤ Errno)) →
    MayProgress version (AskGet key flags) (get_progress version came) []
get_answers version key flags (progress.Waits w) = tt
get_answers version key flags (progress.Over (Ok id)) = (refl, refl, refl, refl, omega arith)
get_answers version key flags (progress.Over (Err why)) = (refl, refl, omega arith, refl, omega arith)

pub send_answers : (version : Version) (id mtype : ℤ) (flags : Flags) (came : Progress SendWait (Result ⊤ Errno)) →
    MayProgress version (Snd id mtype flags) (send_progress version came) []
send_answers version id mtype flags (progress.Waits w) = tt
send_answers version id mtype flags (progress.Over (Ok done)) = (refl, refl, refl, refl, omega arith)
send_answers version id mtype flags (progress.Over (Err why)) = (refl, refl, omega arith, refl, omega arith)

told_answers : (version : Version) (id : ℤ) (size : ℕ) (mtype : ℤ) (flags : Flags) (ending : Ending)
    (told : Result Given Errno) (given : List ℕ) → TellsGot ending told given →
    MayAnswer version (Rcv id size mtype flags) (given_reply version told) given
told_answers version id size mtype flags (Got t text) (Ok delivery) given tells = (refl, tells.1, tells.2)
told_answers version id size mtype flags (Refused why) (Err other) given tells =
    (refl, refl, omega arith, refl, rw tells.1 (omega arith))
told_answers version id size mtype flags ending told given tells = absurd tells

pub receive_answers : (may : ℕ → Type 0) (version : Version) (id : ℤ) (size : ℕ) (mtype : ℤ) (flags : Flags)
    (from : State Receives) (before : Pass) (came : Progress ReceiveWait (Result Given Errno)) (given : List ℕ)
    (after : Pass) → ReceivesOn may from before came given after →
    MayProgress version (Rcv id size mtype flags) (receive_progress version came) given
receive_answers may version id size mtype flags from before (progress.Waits w) given after on = tt
receive_answers may version id size mtype flags from before (progress.Over told) given after on =
    told_answers version id size mtype flags on.0.0 told given on.0.2

pub go_answers : (may : ℕ → Type 0) (version : Version) (ask : Ask) (waiting : Waiting) (text : List ℕ) (before : Pass)
    (result : Progress Waiting RequestOutcome) (given : List ℕ) (after : Pass) → IsWaitOf ask waiting →
    GoesOn may version waiting text before result given after → MayProgress version ask result given
go_answers may version ask waiting text before result given after is (inl still) =
    subst (λ r. MayProgress version ask r given) (sym still.1) is
go_answers may version (Snd id mtype flags) (Send w) text before result given after is (inr went) =
    let on = went.3 in
    subst (λ r. MayProgress version (Snd id mtype flags) r given) (sym on.2)
    (subst (λ g. MayProgress version (Snd id mtype flags) (send_progress version on.0) g) (sym on.3)
    (send_answers version id mtype flags on.0))
go_answers may version (Rcv id size mtype flags) (Receive w) text before result given after is (inr went) =
    let on = went.3 in
    subst (λ r. MayProgress version (Rcv id size mtype flags) r given) (sym on.2)
    (receive_answers may version id size mtype flags _ _ on.0 given after on.1)
go_answers may version (AskGet key flags) (Get w) text before result given after is (inr went) =
    let on = went.3 in
    subst (λ r. MayProgress version (AskGet key flags) r given) (sym on.2)
    (subst (λ g. MayProgress version (AskGet key flags) (get_progress version on.0) g) (sym on.3)
    (get_answers version key flags on.0))
go_answers may version ask waiting text before result given after is (inr went) = absurd is
