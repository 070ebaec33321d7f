-- How a slot relates to a history, and what a call does to it (this profile's).
use Rattle.std.specs.Prelude.{◌≡◌}
use Rattle.sysv_model.specs.History.{History, Who, Call, Reply, then_turn}
use Rattle.sysv_queue.specs.Slot.{Slot, slot_of}
use Rattle.sysv_queue.specs.LegalReply.{IsLegalHistory, Legal}

-- A slot represents a history if each reply of the history is legal and the slot's state is what
-- the history leaves.
pub record Represents (h : History) (s : Slot) : Type 0 where
  pub legal : IsLegalHistory h
  pub seen : slot_of h ≡ s

-- The call makes a turn that takes the slot from the old state to the new one.
pub record MakesTurn (old : Slot) (call : Call) (reply : Reply) (new : Slot) : Type 0 where
  -- the reply is legal at the old state, and therefore after each history that the slot stood for
  pub legal : Legal old call reply
  -- after the call the slot represents each of those histories with this turn added, whoever made
  -- the turn
  pub stands : (h : History) (who : Who) → Represents h old → Represents (then_turn h who call reply) new
