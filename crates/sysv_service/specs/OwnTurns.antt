-- What a call adds to the turns of its pass, in the one order of all turns: exactly the turns that
-- it made, in order, at whatever objects. The step table, taken along these turns, leads to the
-- state of the call, together with what the call does at a gate that it found worn out
-- (POSIX.1-2017, msgget, msgsnd, msgrcv and msgctl; the order is this project's profile).
use Rattle.std.specs.Prelude.{ℕ, List}
use Rattle.sysv_model.specs.Turn.{Op}
use Rattle.sysv_model.specs.Members.{Does}
use Rattle.sysv_steps.specs.Call.{Kind}
use Rattle.sysv_steps.specs.State.{State}
use Rattle.sysv_steps.specs.Played.{Plays}
use Rattle.sysv_service.specs.Marks.{IsUnmarked}
use Rattle.sysv_service.specs.PlayedWorn.{PlaysWorn}
use Rattle.sysv_service.specs.Ran.{Pass, Ran, FindsTurns}

-- What is known of the turns of one call.
pub record PlaysItsOwn {kind : Kind} {may : ℕ → Type 0} {from : State kind} {old : Pass} {ops : List Op}
    {state : State kind} {new : Pass} (ran : Ran may from old ops state new) : Type 0 where
  -- The pass has made exactly the turns of the call, and has seen turns of others between them.
  pub own : Does old.seats.member ops new.seats.member
  -- The call is played along its turns, with the steps and waits whose gate it found worn out. It
  -- finds a gate worn out only if it has no turn left there and the seat is marked.
  pub comes : PlaysWorn new.seats state from ops
  -- If the call found no gate worn out, it is played by the step table alone.
  pub plays : FindsTurns ran → Plays from ops state
  -- If none of the pass's seats is marked, the call found no gate worn out.
  pub unmarked : IsUnmarked new.seats → FindsTurns ran

-- This holds of each call.
abbrev pub EachPlaysItsOwn : (ℕ → Type 0) → Type 0
EachPlaysItsOwn may = (kind : Kind) (from : State kind) (old : Pass) (ops : List Op) (state : State kind)
    (new : Pass) (ran : Ran may from old ops state new) → PlaysItsOwn ran
