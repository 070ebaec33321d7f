-- The law of waits on threads. A call that waits below its goal has the reason that the headline
-- names: a receive has nothing to take, a send for room has none, and a get waits for a row that
-- another call still has to settle or forget. The same holds of a send that waits for blocks, if it
-- had read no more of the released count than there was when it last looked at its queue. Here a
-- count is what the turns of the run make it. On threads it is announced just before the turn that
-- raises it ends, so a call can read one more (POSIX.1-2017, msgsnd and msgrcv, DESCRIPTION, where
-- the caller is suspended; the counts are this project's profile).
use Rattle.std.specs.Prelude.{◌≡◌, ◌<◌, ◌≤◌, ℕ, ℤ, List, [], ◌∷◌, ◌++◌, length, Some, slice_get, false}
use Rattle.std.specs.List.{list_any}
use Rattle.sysv_model.specs.declared.cred.Cred.{Cred}
use Rattle.sysv_model.specs.History.{Who, Call, Reply}
use Rattle.sysv_model.specs.Pool.{released}
use Rattle.sysv_model.specs.Turn.{Op, AtSlot, Turn, pool_history, ops_of}
use Rattle.sysv_model.specs.Turns.{Numbered}
use Rattle.sysv_steps.specs.Call.{SystemCall, Msgsnd, kind_of}
use Rattle.sysv_steps.specs.State.{Wait, OnReleased, Waits}
use Rattle.sysv_steps.specs.Resume.{awaited, goal_of}
use Rattle.sysv_steps.specs.Answers.{is_at_slot}
use Rattle.sysv_core.specs.World.{World, Opening, Doing, Response, opening, value_of}
use Rattle.sysv_core.specs.Parked.{HasTooFewBlocks, IsToBeWoken, HasReason, IsParked}
use Rattle.sysv_thread_laws.specs.Execution.{Moment, LeadsOnThreads}
use Rattle.sysv_thread_laws.specs.Order.{Called}
use Rattle.sysv_thread_laws.specs.OrderIsRun.{name_at, IsRunWith}

-- The released count was at least this when the call made its last turn.
abbrev pub HadReleased : World → Who → ℕ → Type 0
HadReleased w who count = (before after : List Turn) (op : Op) →
    w.turns ≡ before ++ record { who = who; op = op } ∷ after → ops_of who after ≡ [] →
    count ≤ released (pool_history before)

-- The same when the call made its last turn at a slot.
abbrev pub HadReleasedAtSlot : World → Who → ℕ → Type 0
HadReleasedAtSlot w who count = (before after : List Turn) (slot : ℕ) (call : Call) (reply : Reply) →
    w.turns ≡ before ++ record { who = who; op = AtSlot slot call reply } ∷ after →
    list_any is_at_slot (ops_of who after) ≡ false → count ≤ released (pool_history before)

-- What is stated of a send of a body of this size that waits for blocks, by what it had read of the
-- released count.
pub record WaitsForBlocks (w : World) (who : Who) (cred : Cred) (id : ℤ) (size read : ℕ) : Type 0 where
  -- Too few blocks are free, if it had read no more than there was at its last turn, which is the
  -- reserve that was refused.
  pub short : HadReleased w who read → HasTooFewBlocks w size
  -- It has the whole reason of the headline, if it had read no more than there was at its last look.
  pub whole : HadReleasedAtSlot w who read → HasTooFewBlocks w size × IsToBeWoken w id cred

-- The reason for which the call of this name waits, with these credentials and arguments.
abbrev pub HasReasonOnThreads : World → Who → Cred → (asked : SystemCall) → Wait (kind_of asked) → Type 0
HasReasonOnThreads w who cred (Msgsnd id mtype flags text) (OnReleased goal send) =
    WaitsForBlocks w who cred id (length text) send.released
HasReasonOnThreads w who cred asked wait = HasReason w cred asked wait

-- Each call of an execution that waits below its goal has its reason.
abbrev pub EveryThreadedRunParksRightly : Type 0
EveryThreadedRunParksRightly = (o : Opening) (list : List Moment) (responses : List Response) (w : World) →
    LeadsOnThreads (opening o) list responses w → (place : ℕ) (d : Doing) (wait : Wait (kind_of d.call.asked)) →
    IsParked w place d wait → HasReasonOnThreads w d.call.who d.call.cred d.call.asked wait

-- The same of the calls of an order of turns that were left at a wait, or are in one, in each run
-- that is the order with its calls.
abbrev pub EveryOrderParksRightly : Type 0
EveryOrderParksRightly = (generation blocks : ℕ) (order : List Numbered) (calls : List Called)
    (run : IsRunWith generation blocks order calls) (place : ℕ) (c : Called) (wait : Wait (kind_of c.asked)) →
    slice_get calls place ≡ Some c → c.state ≡ Waits wait →
    value_of run.world.turns (awaited wait) < goal_of wait →
    HasReasonOnThreads run.world (name_at place) c.cred c.asked wait
