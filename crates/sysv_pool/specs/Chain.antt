-- What the contracts see of a chain (this profile's): its number of blocks, and the bytes of the
-- body in them.
use Rattle.std.specs.Prelude.{ℕ, ◌^◌, ◌-◌, List, min}

pub record Chained : Type 0 where
  pub blocks : ℕ
  pub bytes : List ℕ

-- The number of blocks as a chain returns it: the largest number of 32 bits if there are more.
abbrev pub counted : ℕ → ℕ
counted blocks = min blocks (2 ^ 32 - 1)
