-- A tally of messages that were received (this profile's). Each message was either written to its
-- receiver or lost on the way.
use Rattle.std.specs.Prelude.{ℕ, ◌+◌}

-- What the contracts see of a tally.
pub record Tallied : Type 0 where
  pub written : ℕ
  pub lost : ℕ

-- The number of messages that were taken: those written and those lost.
abbrev pub taken_in : Tallied → ℕ
taken_in tally = tally.written + tally.lost
