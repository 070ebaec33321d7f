-- The law that every legal history obeys (this profile's): blocks are neither made nor lost.
use Rattle.std.specs.Prelude.{◌≡◌, ℕ, ◌+◌, ◌-◌, ◌≤◌}
use Rattle.sysv_model.specs.Pool.{PoolHistory}
use Rattle.sysv_pool.specs.State.{reserved, returned, free_after}
use Rattle.sysv_pool.specs.LegalReply.{IsLegalHistory}

-- The number of blocks in chains that were reserved and not released.
abbrev pub out : PoolHistory → ℕ
out h = reserved h - returned h

-- The pool law, for a pool of this size.
pub record PoolLaw (size : ℕ) (h : PoolHistory) : Type 0 where
  -- every reply is legal after the entries before it
  pub legal : IsLegalHistory size h
  -- no more blocks are free than the pool has
  pub within : free_after size h ≤ size
  -- no more blocks were released than were reserved
  pub owed : returned h ≤ reserved h
  -- each block is free or in a chain that is still reserved
  pub conserved : free_after size h + out h ≡ size
