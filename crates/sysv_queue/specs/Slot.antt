-- What the contracts see of a slot (this profile's): the attributes of the live queue, if there is
-- one, its queued messages in the order of acceptance, and the two counts.
use Rattle.std.specs.Prelude.{ℕ, List, Option}
use Rattle.sysv_model.specs.declared.attributes.Attributes.{Attributes}
use Rattle.sysv_model.specs.Message.{Message}
use Rattle.sysv_model.specs.History.{History, arrived, freed}
use Rattle.sysv_model.specs.Live.{live}
use Rattle.sysv_model.specs.Waiting.{held}

-- The state of a slot.
pub record Slot : Type 0 where
  pub live : Option Attributes
  pub messages : List Message
  pub arrived : ℕ
  pub freed : ℕ

-- The state in which a history leaves a slot.
abbrev pub slot_of : History → Slot
slot_of h = record { live = live h; messages = held h; arrived = arrived h; freed = freed h }
