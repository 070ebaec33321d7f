-- Which calls deal with a row of the registry (this project's profile). A row that is still to be
-- settled, or whose queue is not live, as between the removal of a queue and the turn that forgets
-- its identifier, is to be settled, given up or forgotten by some actor: its call is still before
-- that turn. So no key stays bound to nothing after the pending calls are over.
use Rattle.std.specs.Prelude.{◌≡◌, ◌⊎◌, ℕ, ℤ, false, Some, slice_get}
use Rattle.sysv_model.specs.Live.{IsLive}
use Rattle.sysv_model.specs.Turn.{slot_history, registry_history}
use Rattle.sysv_keys.specs.Identifier.{slot_of_id}
use Rattle.sysv_keys.specs.Rows.{Row, IsRow}
use Rattle.sysv_steps.specs.Tended.{HasToSettle, HasToForget}
use Rattle.sysv_core.specs.World.{World, Doing}

-- Some actor's call still has to settle this identifier, or to forget it.
pub record IsTended (w : World) (id : ℤ) : Type 0 where
  pub place : ℕ
  pub doing : Doing
  pub there : slice_get w.actors place ≡ Some (Some doing)
  pub tends : HasToSettle doing.state id ⊎ HasToForget doing.state id

-- This holds of each row that is not settled or whose queue is not live.
abbrev pub AreTended : World → Type 0
AreTended w = (row : Row) → IsRow w.generation (registry_history w.turns) row →
    (row.live ≡ false) ⊎ ¬ IsLive (slot_history (slot_of_id row.id) w.turns) row.id → IsTended w row.id
