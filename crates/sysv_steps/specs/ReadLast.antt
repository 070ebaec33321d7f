-- The value of the released count above which a send waits for blocks (this project's profile): the
-- one that it read last, at its start or at the end of a wait for blocks. So a release in the
-- meantime, while the send looked or waited for room, ends the wait.
use Rattle.std.specs.Prelude.{◌≡◌, ℕ, ℤ, ◌+◌, List}
use Rattle.sysv_model.specs.declared.cred.Cred.{Cred}
use Rattle.sysv_model.specs.declared.flags.Flags.{Flags}
use Rattle.sysv_model.specs.Turn.{Op}
use Rattle.sysv_steps.specs.Call.{Msgsnd, Kind}
use Rattle.sysv_steps.specs.State.{Sending, Wait, OnReleased, State, Goes, Waits}
use Rattle.sysv_steps.specs.Begin.{begin}
use Rattle.sysv_steps.specs.Played.{Plays, begins, steps, resumes}

-- The end of a wait for blocks reads the count. The end of any other wait does not.
abbrev pub read_then : {kind : Kind} → Wait kind → ℕ → ℕ → ℕ
read_then (OnReleased goal send) value before = value
read_then wait value before = before

-- The value that was read last along a play, if the call read `began` at its start.
abbrev pub read_last : {kind : Kind} (began : ℕ) (from : State kind) (ops : List Op) (state : State kind) →
    Plays from ops state → ℕ
read_last began from _ _ begins = began
read_last began from _ _ (steps {ops} {phase} op now after play asked row) =
    read_last began from ops (Goes phase) play
read_last began from _ _ (resumes {ops} {wait} value play least) =
    read_then wait value (read_last began from ops (Waits wait) play)

-- The goal of each wait for blocks is one more than that value.
abbrev pub EachWaitsAboveWhatItRead : Type 0
EachWaitsAboveWhatItRead =
    (cred : Cred) (id mtype : ℤ) (flags : Flags) (text : List ℕ) (released : ℕ) (ops : List Op) (goal : ℕ)
    (send : Sending) →
    (play : Plays (begin cred (Msgsnd id mtype flags text) released) ops (Waits (OnReleased goal send))) →
    goal
    ≡ read_last released (begin cred (Msgsnd id mtype flags text) released) ops (Waits (OnReleased goal send)) play + 1
