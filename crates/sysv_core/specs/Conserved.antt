-- Where the blocks of the pool are (this project's profile). Each block is free, under a queued
-- message in one of the slots, or held by a pending call. Together they are the blocks with which
-- the world was opened, whatever has happened in it. So no block is made or lost, and the pool
-- takes back every chain that a call releases.
use Rattle.std.specs.Prelude.{◌≡◌, ◌≢◌, ℕ, ◌+◌, List, Option, Some, None, sum_by, All}
use Rattle.std.specs.List.{range_with_len}
use Rattle.sysv_model.specs.Pool.{Foreign, PoolEntry}
use Rattle.sysv_model.specs.Turn.{Turn, slot_history, pool_history}
use Rattle.sysv_model.specs.Waiting.{held as waiting_in}
use Rattle.sysv_pool.specs.State.{free_after}
use Rattle.sysv_queue.specs.Blocks.{blocks_of}
use Rattle.sysv_keys.specs.declared.identifier.TheConstants.{SLOTS}
use Rattle.sysv_steps.specs.HeldBlocks.{held}
use Rattle.sysv_core.specs.World.{Doing}

-- The number of blocks under the queued messages of all slots.
unfoldable pub blocks_waiting : List Turn → ℕ
blocks_waiting turns = sum_by (λ (slot : ℕ). blocks_of (waiting_in (slot_history slot turns))) (range_with_len 0 SLOTS)

-- The number of blocks that an actor's call holds.
abbrev pub blocks_in_call : Option Doing → ℕ
blocks_in_call None = 0
blocks_in_call (Some doing) = held doing.state

-- The number of blocks that the calls of all actors hold.
abbrev pub blocks_in_calls : List (Option Doing) → ℕ
blocks_in_calls actors = sum_by blocks_in_call actors

-- The blocks of a pool of this size are where they should be.
pub record AreConserved (size : ℕ) (turns : List Turn) (actors : List (Option Doing)) : Type 0 where
  pub whole : free_after size (pool_history turns) + (blocks_waiting turns + blocks_in_calls actors) ≡ size
  -- No chain was refused as foreign.
  pub taken_back : All (λ (e : PoolEntry). e.reply ≢ Foreign) (pool_history turns)
