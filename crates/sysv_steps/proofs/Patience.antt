-- A send or a receive that waits was refused. One that does not wait was never refused for want of
-- room or of a message while it is pending.
use Rattle.std.proofs.Common.{◌≡◌, ℕ, ℤ, inl, inr, Bool, true, false, List, [], refl, ap, ◌∙◌}
use Rattle.std.specs.List.{list_any}
use Rattle.sysv_model.specs.declared.cred.Cred.{Cred}
use Rattle.sysv_model.specs.declared.flags.Flags.{Flags}
use Rattle.sysv_model.specs.Turn.{Op}
use Rattle.sysv_steps.specs.Call.{Sends, Receives, kind_of}
use Rattle.sysv_steps.specs.Call.{SystemCall, Msgget, Msgsnd, Msgrcv}
use Rattle.sysv_steps.specs.State.{Sending, Receiving, Wait, OnFreed, OnReleased, OnArrived, Waits}
use Rattle.sysv_steps.specs.Begin.{begin}
use Rattle.sysv_steps.specs.Played.{Plays}
use Rattle.sysv_steps.specs.Answers.{was_full, found_none, does_not_wait}
use Rattle.sysv_steps.specs.WaitsFor.{WasFull, FoundNone, WaitsFor}
use Rattle.sysv_steps.specs.MayWait.{MayWait}
use Rattle.sysv_steps.proofs.Among.{apart, amid}
use Rattle.sysv_steps.proofs.Sends.{SendAt, send_at}
use Rattle.sysv_steps.proofs.Receives.{ReceiveAt, receive_at}
use Rattle.sysv_steps.proofs.WaitsAfterRefusal.{each_waits}

-- A test that would lead to a contradiction fails.
denies : (b c : Bool) → b ≡ c → (b ≡ true → ⊥) → c ≡ false
denies b true e h = absurd (h e)
denies b false e h = refl

was_full_there : (ops : List Op) (send : Sending) (freed : ℕ) → WasFull send freed ops →
    list_any was_full ops ≡ true
was_full_there ops send freed (inl l) = ap (list_any was_full) l.2 ∙ amid was_full l.0 l.1 _ refl
was_full_there ops send freed (inr p) = ap (list_any was_full) p.1.2 ∙ amid was_full p.1.0 p.1.1 _ refl

found_none_there : (ops : List Op) (receive : Receiving) (arrived : ℕ) → FoundNone receive arrived ops →
    list_any found_none ops ≡ true
found_none_there ops receive arrived f = ap (list_any found_none) f.1.2 ∙ amid found_none f.1.0 f.1.1 _ refl

send_may : (id mtype : ℤ) (flags : Flags) (text : List ℕ) (ops : List Op) (wait : Wait Sends) →
    SendAt id mtype flags text ops (Waits wait) → WaitsFor wait ops → does_not_wait flags ≡ false
send_may id mtype flags text ops (OnFreed goal send) u w =
    denies send.nowait (does_not_wait flags) u.nowait
    (λ e. apart (list_any was_full ops) (was_full_there ops send w.0 w.2) (u.full e))
send_may id mtype flags text ops (OnReleased goal send) u w =
    denies send.nowait (does_not_wait flags) u.nowait
    (λ e. apart (list_any was_full ops) (ap (list_any was_full) w.1.1 ∙ amid was_full w.1.0 [] _ refl) (u.full e))

receive_may : (id : ℤ) (size : ℕ) (mtype : ℤ) (flags : Flags) (ops : List Op) (wait : Wait Receives) →
    ReceiveAt id size mtype flags ops (Waits wait) → WaitsFor wait ops → does_not_wait flags ≡ false
receive_may id size mtype flags ops (OnArrived goal receive) u w =
    denies receive.nowait (does_not_wait flags) u.nowait
    (λ e. apart (list_any found_none ops) (found_none_there ops receive w.0 w.2) (u.none e))

pub each_may : (cred : Cred) (asked : SystemCall) (released : ℕ) (ops : List Op) (wait : Wait (kind_of asked)) →
    Plays (begin cred asked released) ops (Waits wait) → MayWait asked
each_may cred (Msgget key flags) released ops wait p = tt
each_may cred (Msgsnd id mtype flags text) released ops wait p =
    send_may id mtype flags text ops wait (send_at id mtype flags text cred released ops (Waits wait) p)
    (each_waits cred (Msgsnd id mtype flags text) released ops wait p)
each_may cred (Msgrcv id size mtype flags) released ops wait p =
    receive_may id size mtype flags ops wait (receive_at id size mtype flags cred released ops (Waits wait) p)
    (each_waits cred (Msgrcv id size mtype flags) released ops wait p)
each_may cred asked released ops wait p = elim wait [ ]
