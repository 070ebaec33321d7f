-- The end of a wait: the value of the count that ended it is at least the goal, and the call
-- continues at the step that the wait holds (this project's profile). Only a wait for blocks keeps
-- the value, as the released count that the call read last.
use Rattle.std.specs.Prelude.{ℕ}
use Rattle.sysv_keys.specs.Identifier.{slot_of_id}
use Rattle.sysv_steps.specs.Call.{Kind}
use Rattle.sysv_steps.specs.State.{Wait, OnSettled, OnFreed, OnReleased, OnArrived, Phase, AtBegin, AtLook, AtTake}

-- A count that rises: of a slot, of the registry or of the pool.
pub data Count : Type 0 where
  ArrivedOf : (slot : ℕ) → Count
  FreedOf : (slot : ℕ) → Count
  Settled : Count
  Released : Count

-- The count for which a call waits.
abbrev pub awaited : {kind : Kind} → Wait kind → Count
awaited (OnSettled goal get) = Settled
awaited (OnFreed goal send) = FreedOf (slot_of_id send.id)
awaited (OnReleased goal send) = Released
awaited (OnArrived goal receive) = ArrivedOf (slot_of_id receive.id)

-- The value that the count must reach at least.
abbrev pub goal_of : {kind : Kind} → Wait kind → ℕ
goal_of (OnSettled goal get) = goal
goal_of (OnFreed goal send) = goal
goal_of (OnReleased goal send) = goal
goal_of (OnArrived goal receive) = goal

-- The step at which the call continues, by the value that ended its wait.
abbrev pub resume : {kind : Kind} → Wait kind → ℕ → Phase kind
resume (OnSettled goal get) value = AtBegin get
resume (OnFreed goal send) value = AtLook send
resume (OnReleased goal send) value = AtLook (record send { released = value })
resume (OnArrived goal receive) value = AtTake receive
