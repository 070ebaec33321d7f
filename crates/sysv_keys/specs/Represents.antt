-- How a registry relates to a history, and what a call does to it (this profile's).
use Rattle.std.specs.Prelude.{◌≡◌, ℕ, [], ◌∷◌, ◌++◌, length}
use Rattle.sysv_model.specs.History.{Who}
use Rattle.sysv_model.specs.Registry.{RegistryCall, RegistryReply, RegistryHistory}
use Rattle.sysv_keys.specs.declared.identifier.TheConstants.{SLOTS}
use Rattle.sysv_keys.specs.State.{Registry, state_of, state_in}
use Rattle.sysv_keys.specs.LegalReply.{Legal, IsLegalHistory}

-- A registry represents a history if each reply of the history is legal, and the registry has a
-- place for each slot and its state is what the history leaves. All slots had the generation
-- `opening` when the registry was opened.
pub record Represents (opening : ℕ) (h : RegistryHistory) (r : Registry) : Type 0 where
  pub legal : IsLegalHistory opening h
  pub wide : length r.places ≡ SLOTS
  pub seen : state_of opening h ≡ state_in r

-- The history h with one more turn at its end.
abbrev pub then_turn : RegistryHistory → Who → RegistryCall → RegistryReply → RegistryHistory
then_turn h who call reply = h ++ record { who = who; call = call; reply = reply } ∷ []

-- The call makes a turn that takes the registry from the old state to the new one.
pub record MakesTurn (old : Registry) (call : RegistryCall) (reply : RegistryReply) (new : Registry) : Type 0 where
  -- the reply is legal at the old state, and therefore after each history that the registry stood
  -- for
  pub legal : Legal (state_in old) call reply
  -- after the call the registry represents each of those histories with this turn added, whoever
  -- made the turn
  pub stands : (opening : ℕ) (h : RegistryHistory) (who : Who) → Represents opening h old →
      Represents opening (then_turn h who call reply) new
