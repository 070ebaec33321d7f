-- How a pool relates to a history, and what a call does to it (this profile's).
use Rattle.std.specs.Prelude.{◌≡◌, [], ◌∷◌, ◌++◌}
use Rattle.sysv_model.specs.History.{Who}
use Rattle.sysv_model.specs.Pool.{PoolCall, PoolReply, PoolHistory}
use Rattle.sysv_pool.specs.State.{State, state_of}
use Rattle.sysv_pool.specs.LegalReply.{IsLegalHistory, Legal}

-- A pool represents a history if each reply of the history is legal and the pool's state is what
-- the history leaves.
pub record Represents (h : PoolHistory) (pool : State) : Type 0 where
  pub legal : IsLegalHistory pool.size h
  pub seen : state_of pool.size h ≡ pool

-- The history h with one more turn at its end.
abbrev pub then_turn : PoolHistory → Who → PoolCall → PoolReply → PoolHistory
then_turn h who call reply = h ++ record { who = who; call = call; reply = reply } ∷ []

-- The call makes a turn that takes the pool from the old state to the new one.
pub record MakesTurn (old : State) (call : PoolCall) (reply : PoolReply) (new : State) : Type 0 where
  -- the reply is legal at the old state, and therefore after each history that the pool stood for
  pub legal : Legal old call reply
  -- after the call the pool represents each of those histories with this turn added, whoever made
  -- the turn
  pub stands : (h : PoolHistory) (who : Who) → Represents h old → Represents (then_turn h who call reply) new
