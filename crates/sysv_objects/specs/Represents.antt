-- How the objects relate to a list of turns, and what a request does to them (this profile's).
use Rattle.std.specs.Prelude.{◌≡◌, ℕ, ◌+◌, List, [], ◌∷◌, ◌++◌, Some, length, slice_get, All}
use Rattle.sysv_model.specs.History.{Who}
use Rattle.sysv_model.specs.Turn.{Op, Turn, slot_history, registry_history, pool_history}
use Rattle.sysv_keys.specs.declared.identifier.TheConstants.{SLOTS}
use Rattle.sysv_queue.specs.Slot.{Slot}
use Rattle.sysv_queue.specs.Represents.{Represents as SlotRepresents}
use Rattle.sysv_pool.specs.Represents.{Represents as PoolRepresents}
use Rattle.sysv_keys.specs.Represents.{Represents as RegistryRepresents}
use Rattle.sysv_objects.specs.LegalOp.{IsLegalOp}
use Rattle.sysv_objects.specs.Objects.{Objects, CountsUpTo, raises_by}

-- The objects represent a list of turns if each of them represents its own history in the list. All
-- slots had this generation when the registry was opened.
pub record Represents (generation : ℕ) (turns : List Turn) (objects : Objects) : Type 0 where
  pub many : length objects.slots ≡ SLOTS
  pub slots : (number : ℕ) (slot : Slot) → slice_get objects.slots number ≡ Some slot →
      SlotRepresents (slot_history number turns) slot
  pub registry : RegistryRepresents generation (registry_history turns) objects.registry
  pub pool : PoolRepresents (pool_history turns) objects.pool

-- There are `SLOTS` slots, and nothing has happened at any of them.
abbrev pub AreVacant : List Slot → Type 0
AreVacant slots = (length slots ≡ SLOTS) × All (SlotRepresents []) slots

-- The objects represent some list of turns.
abbrev pub Stand : Objects → Type 0
Stand objects = (generation : ℕ) × (turns : List Turn) × Represents generation turns objects

-- The operation is a turn that takes the objects from the old state to the new one.
pub record MakesTurn (old : Objects) (op : Op) (new : Objects) : Type 0 where
  -- the reply is legal after each list of turns that the objects stood for
  pub legal : (generation : ℕ) (turns : List Turn) → Represents generation turns old →
      IsLegalOp generation old.pool.size turns op
  -- after the call the objects represent each of those lists with this turn added, whoever made the
  -- turn
  pub stands : (generation : ℕ) (turns : List Turn) (who : Who) → Represents generation turns old →
      Represents generation (turns ++ record { who = who; op = op } ∷ []) new
  -- the pool keeps its size
  pub size : new.pool.size ≡ old.pool.size
  -- the counts of the slots and of the pool have risen by no more than such a turn raises them
  pub counts : (bound : ℕ) → CountsUpTo bound old → CountsUpTo (bound + raises_by op) new
