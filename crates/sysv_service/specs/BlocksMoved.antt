-- The blocks that a turn moves from the pool or to it (this project's profile).
use Rattle.std.specs.Prelude.{ℕ, Some, None, Ok, Err}
use Rattle.sysv_objects.specs.declared.pool.PoolCall.TheVariants.{Reserve, Release}
use Rattle.sysv_objects.specs.declared.pool.PoolReply.TheVariants.{Reserved, Released}
use Rattle.sysv_objects.specs.declared.object.ObjectCall.{ObjectCall}
use Rattle.sysv_objects.specs.declared.object.ObjectCall.TheVariants as asked
use Rattle.sysv_objects.specs.declared.object.ObjectReply.{ObjectReply}
use Rattle.sysv_objects.specs.declared.object.ObjectReply.TheVariants as told

-- The blocks that the request hands to the pool.
abbrev pub blocks_handed : ObjectCall → ℕ
blocks_handed (asked.Slot call) = 0
blocks_handed (asked.Registry call) = 0
blocks_handed (asked.Pool (Reserve size)) = 0
blocks_handed (asked.Pool (Release chain)) = chain.blocks

-- The blocks that the reply takes out of the pool, or that the pool did not take back.
abbrev pub blocks_returned : ObjectReply → ℕ
blocks_returned (told.Slot reply) = 0
blocks_returned (told.Registry reply) = 0
blocks_returned (told.Pool (Reserved None)) = 0
blocks_returned (told.Pool (Reserved (Some chain))) = chain.blocks
blocks_returned (told.Pool (Released (Ok done))) = 0
blocks_returned (told.Pool (Released (Err chain))) = chain.blocks
