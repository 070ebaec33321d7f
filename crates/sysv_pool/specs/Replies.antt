-- The results of the pool's calls, as replies in its history (this profile's).
use Rattle.std.specs.Prelude.{Option, None, Some, Result, Ok, Err}
use Rattle.sysv_model.specs.Pool.{PoolReply, Reserved, TooFew, Released, Foreign}
use Rattle.sysv_pool.specs.Chain.{Chained}

-- The result of reserve.
abbrev pub reserve_reply : Option Chained → PoolReply
reserve_reply None = TooFew
reserve_reply (Some chain) = Reserved chain.blocks

-- The result of release.
abbrev pub release_reply : {X : Type 0} → Result X Chained → PoolReply
release_reply (Ok done) = Released
release_reply (Err chain) = Foreign
