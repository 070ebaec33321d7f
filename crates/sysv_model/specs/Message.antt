-- A message: what one accepted send put on a queue (POSIX.1-2017, sys/msg.h: a message has a type
-- and a body). The acceptance number is this profile's: no two messages of one slot have the same
-- number.
use Rattle.std.specs.Prelude.{ℕ, ℤ, List}

pub record Message : Type 0 where
  pub number : ℕ  -- the acceptance number
  pub sender : ℕ  -- the process that sent it
  pub mtype : ℤ  -- its type
  pub bytes : List ℕ  -- its text
