-- The effects of a call (POSIX.1-2017, msgget, msgsnd, msgrcv and msgctl, each DESCRIPTION). A call
-- that is over or pending has had at most one: it made one identifier, put one message on a
-- queue, took one message from a queue, changed the attributes of one queue, or removed one queue.
use Rattle.std.specs.Prelude.{ℕ, ◌+◌, ◌≤◌, List, length, count_by}
use Rattle.std.specs.List.{flat_map}
use Rattle.sysv_model.specs.declared.cred.Cred.{Cred}
use Rattle.sysv_model.specs.Turn.{Op}
use Rattle.sysv_steps.specs.Call.{kind_of}
use Rattle.sysv_steps.specs.Call.{SystemCall}
use Rattle.sysv_steps.specs.State.{State}
use Rattle.sysv_steps.specs.Begin.{begin}
use Rattle.sysv_steps.specs.Played.{Plays}
use Rattle.sysv_steps.specs.Answers.{made_by, was_accepted, taken_by, was_changed, was_removed}

-- The number of effects of these operations: of identifiers that the registry made, messages that
-- were put on a queue, messages that were taken, changes of attributes, and removals.
abbrev pub effects : List Op → ℕ
effects ops =
    length (flat_map made_by ops) + count_by was_accepted ops + length (flat_map taken_by ops)
    + count_by was_changed ops + count_by was_removed ops

-- Each call that plays these operations to a state, whether or not it is over, has at most one
-- effect.
abbrev pub EachHasOneEffect : Type 0
EachHasOneEffect = (cred : Cred) (asked : SystemCall) (released : ℕ) (ops : List Op) (state : State (kind_of asked)) →
    Plays (begin cred asked released) ops state → effects ops ≤ 1
