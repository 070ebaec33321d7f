-- An order of turns when no call of it is pending: each call is over, or was left at a wait. Then
-- no call holds a block, and no key is bound to nothing. It is not claimed that every order reaches
-- this state (this project's profile).
use Rattle.std.specs.Prelude.{◌≡◌, ℕ, ◌+◌, true, List, All}
use Rattle.sysv_model.specs.Live.{IsLive}
use Rattle.sysv_model.specs.Turn.{Turn, slot_history, registry_history, pool_history}
use Rattle.sysv_pool.specs.State.{free_after}
use Rattle.sysv_keys.specs.Identifier.{slot_of_id}
use Rattle.sysv_keys.specs.Rows.{Row, IsRow}
use Rattle.sysv_objects.specs.LegalOp.{AreLegal}
use Rattle.sysv_steps.specs.Call.{Kind}
use Rattle.sysv_steps.specs.State.{State, Goes, Waits, Over}
use Rattle.sysv_core.specs.Conserved.{blocks_waiting}
use Rattle.sysv_model.specs.Turns.{Numbered, turns_of}
use Rattle.sysv_thread_laws.specs.Order.{Called, AreAll}

-- The call makes no more turns: it is over or in a wait.
abbrev pub Rests : {kind : Kind} → State kind → Type 0
Rests (Goes phase) = ⊥
Rests (Waits wait) = Unit {0}
Rests (Over ending) = Unit {0}

-- No block is held by a call, and no row is without a live queue.
pub record AreAtRest (generation blocks : ℕ) (turns : List Turn) : Type 0 where
  -- Each block is free or under a queued message.
  pub whole : free_after blocks (pool_history turns) + blocks_waiting turns ≡ blocks
  -- Each row is settled, and its queue is live.
  pub rows : (row : Row) → IsRow generation (registry_history turns) row →
      (row.live ≡ true) × IsLive (slot_history (slot_of_id row.id) turns) row.id

-- This holds of each legal order whose calls are all over or in a wait.
abbrev pub OrdersAtRest : Type 0
OrdersAtRest = (generation blocks : ℕ) (order : List Numbered) (calls : List Called) →
    AreLegal generation blocks (turns_of order) → AreAll order calls → All (λ (c : Called). Rests c.state) calls →
    AreAtRest generation blocks (turns_of order)
