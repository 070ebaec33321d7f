-- The turns at the pool, whose blocks hold message bodies (this profile's). A chain of blocks is
-- reserved for a body and is released when the body is no longer needed.
use Rattle.std.specs.Prelude.{ℕ, ◌+◌, ◌-◌, ◌/◌, Bool, true, false, List, count_by}
use Rattle.sysv_model.specs.declared.limits.TheConstants.{BLOCK_BYTES}
use Rattle.sysv_model.specs.History.{Who}

-- The number of blocks for a body of this size: the smallest number whose blocks hold it.
abbrev pub blocks_for : ℕ → ℕ
blocks_for size = (size + (BLOCK_BYTES - 1)) / BLOCK_BYTES

-- The calls at the pool.
pub data PoolCall : Type 0 where
  -- reserves a chain for a body of this size
  Reserve : (size : ℕ) → PoolCall
  -- returns a chain of this number of blocks
  Release : (blocks : ℕ) → PoolCall

-- The replies of the pool.
pub data PoolReply : Type 0 where
  -- a chain of this number of blocks was reserved
  Reserved : (blocks : ℕ) → PoolReply
  -- too few blocks are free
  TooFew : PoolReply
  -- the chain's blocks are free
  Released : PoolReply
  -- the chain belongs to another pool: its blocks would make more free blocks than the pool has
  Foreign : PoolReply

-- One turn at the pool.
pub record PoolEntry : Type 0 where
  pub who : Who
  pub call : PoolCall
  pub reply : PoolReply

-- The turns at the pool, in order.
abbrev pub PoolHistory : Type 0
PoolHistory = List PoolEntry

-- The turns that the released count counts: the releases of a chain, also of an empty one.
abbrev pub frees : PoolReply → Bool
frees Released = true
frees reply = false

-- The released count: the number of chains that were released.
abbrev pub released : PoolHistory → ℕ
released h = count_by (λ (e : PoolEntry). frees e.reply) h
