-- The legal replies to a turn (this profile's): those that are legal after the earlier turns at the
-- same object, whoever made them. Turns at other objects do not matter.
use Rattle.std.specs.Prelude.{ℕ, List}
use Rattle.sysv_model.specs.Turn.{Op, AtSlot, AtRegistry, AtPool, Turn, slot_history, registry_history, pool_history}
use Rattle.sysv_queue.specs.LegalReply.{IsLegalReply, IsLegalHistory}
use Rattle.sysv_pool.specs.LegalReply.{IsLegalReply as IsLegalPoolReply, IsLegalHistory as IsLegalPoolHistory}
use Rattle.sysv_keys.specs.LegalReply.{IsLegalReply as IsLegalRegistryReply, IsLegalHistory as IsLegalRegistryHistory}

-- The operation is legal after these turns, if all slots had this generation when the registry was
-- opened and the pool was opened with this number of blocks.
abbrev pub IsLegalOp : (generation blocks : ℕ) → List Turn → Op → Type 0
IsLegalOp generation blocks turns (AtSlot slot call reply) = IsLegalReply (slot_history slot turns) call reply
IsLegalOp generation blocks turns (AtRegistry call reply) =
    IsLegalRegistryReply generation (registry_history turns) call reply
IsLegalOp generation blocks turns (AtPool call reply) = IsLegalPoolReply blocks (pool_history turns) call reply

-- The history of each object is legal.
pub record AreLegal (generation blocks : ℕ) (turns : List Turn) : Type 0 where
  pub slots : (slot : ℕ) → IsLegalHistory (slot_history slot turns)
  pub registry : IsLegalRegistryHistory generation (registry_history turns)
  pub pool : IsLegalPoolHistory blocks (pool_history turns)
