-- What the contracts see of a pool (this profile's): its size, the number of free blocks and the
-- released count.
use Rattle.std.specs.Prelude.{ℕ, ◌+◌, ◌-◌, sum_by}
use Rattle.sysv_model.specs.Pool.{PoolCall, Release, PoolReply, Reserved, Released, PoolEntry, PoolHistory, released}

pub record State : Type 0 where
  pub size : ℕ
  pub free : ℕ
  pub released : ℕ

-- The number of blocks that a turn reserved.
abbrev pub reserved_by : PoolReply → ℕ
reserved_by (Reserved blocks) = blocks
reserved_by reply = 0

-- The number of blocks that a turn released.
abbrev pub returned_by : PoolCall → PoolReply → ℕ
returned_by (Release blocks) Released = blocks
returned_by call reply = 0

-- The number of blocks in all chains that were reserved.
abbrev pub reserved : PoolHistory → ℕ
reserved h = sum_by (λ (e : PoolEntry). reserved_by e.reply) h

-- The number of blocks in all chains that were released.
abbrev pub returned : PoolHistory → ℕ
returned h = sum_by (λ (e : PoolEntry). returned_by e.call e.reply) h

-- The number of free blocks: all blocks and those released, minus those reserved.
abbrev pub free_after : ℕ → PoolHistory → ℕ
free_after size h = (size + returned h) - reserved h

-- The state in which this history leaves a pool of this size.
abbrev pub state_of : ℕ → PoolHistory → State
state_of size h = record { size = size; free = free_after size h; released = released h }
