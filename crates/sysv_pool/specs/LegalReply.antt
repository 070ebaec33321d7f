-- The legal replies of a pool with this state (this profile's). A reply that is not listed is never
-- legal.
use Rattle.std.specs.Prelude.{◌≡◌, ℕ, ◌+◌, ◌<◌, ◌≤◌, ◌∷◌, ◌++◌}
use Rattle.sysv_model.specs.Pool.{blocks_for, PoolCall, Reserve, Release, PoolReply, Reserved, TooFew, Released}
use Rattle.sysv_model.specs.Pool.{Foreign, PoolEntry, PoolHistory}
use Rattle.sysv_pool.specs.State.{State, state_of}

-- The replies to reserve: TooFew if and only if fewer blocks are free than the body needs,
-- otherwise a chain of exactly the blocks that it needs.
abbrev pub LegalReserve : State → ℕ → PoolReply → Type 0
LegalReserve pool size (Reserved blocks) = (blocks_for size ≤ pool.free) × (blocks ≡ blocks_for size)
LegalReserve pool size TooFew = pool.free < blocks_for size
LegalReserve pool size reply = ⊥

-- The replies to release: Foreign if and only if the free blocks and the chain's together exceed
-- the size of the pool, otherwise Released.
abbrev pub LegalRelease : State → ℕ → PoolReply → Type 0
LegalRelease pool blocks Released = pool.free + blocks ≤ pool.size
LegalRelease pool blocks Foreign = pool.size < pool.free + blocks
LegalRelease pool blocks reply = ⊥

-- The reply to this call is legal at a pool with this state.
abbrev pub Legal : State → PoolCall → PoolReply → Type 0
Legal pool (Reserve size) reply = LegalReserve pool size reply
Legal pool (Release blocks) reply = LegalRelease pool blocks reply

-- The reply to this call is legal after this history, at a pool of this size.
abbrev pub IsLegalReply : ℕ → PoolHistory → PoolCall → PoolReply → Type 0
IsLegalReply size h call reply = Legal (state_of size h) call reply

-- Every reply of the history is legal after the entries before it.
abbrev pub IsLegalHistory : ℕ → PoolHistory → Type 0
IsLegalHistory size h = (before : PoolHistory) (e : PoolEntry) (after : PoolHistory) → h ≡ before ++ e ∷ after →
    IsLegalReply size before e.call e.reply
