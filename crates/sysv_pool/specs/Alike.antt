-- What the reply to one reservation shows of another one that is made at the same moment (this
-- profile's).
use Rattle.std.specs.Prelude.{ℕ, ◌≤◌}
use Rattle.sysv_model.specs.Pool.{Reserve, TooFew, PoolHistory}
use Rattle.sysv_pool.specs.LegalReply.{IsLegalReply}

-- If there are too few blocks for a body, there are too few for a longer one.
abbrev pub LongerFindsTooFew : Type 0
LongerFindsTooFew = (pool : ℕ) (h : PoolHistory) (size longer : ℕ) → size ≤ longer →
    IsLegalReply pool h (Reserve size) TooFew → IsLegalReply pool h (Reserve longer) TooFew
