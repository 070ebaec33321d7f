-- A turn at the pool: how the code's requests and replies appear in the pool's history (this
-- profile's).
use Rattle.std.specs.Prelude.{◌≡◌, Some, None, Ok, Err, [], ⊤}
use Rattle.sysv_model.specs.Pool.{PoolCall, Reserve, Release, PoolReply, blocks_for}
use Rattle.sysv_pool.specs.Replies.{reserve_reply, release_reply}
use Rattle.sysv_pool.specs.State.{State}
use Rattle.sysv_pool.specs.Represents.{MakesTurn}
use Rattle.sysv_objects.specs.declared.pool.PoolCall.{PoolCall as Asked}
use Rattle.sysv_objects.specs.declared.pool.PoolCall.TheVariants as asked
use Rattle.sysv_objects.specs.declared.pool.PoolReply.{PoolReply as Told}
use Rattle.sysv_objects.specs.declared.pool.PoolReply.TheVariants as told

-- The request in the pool's history.
abbrev pub pool_call : Asked → PoolCall
pool_call (asked.Reserve size) = Reserve size
pool_call (asked.Release chain) = Release chain.blocks

-- The reply in the pool's history.
abbrev pub pool_reply : Told → PoolReply
pool_reply (told.Reserved chain) = reserve_reply chain
pool_reply (told.Released done) = release_reply done

-- The reply fits the request: it is of the same kind, a reserved chain has the blocks for a body of
-- this size and no body yet, and a refused chain is handed back unchanged.
abbrev pub FitsPoolCall : Asked → Told → Type 0
FitsPoolCall (asked.Reserve size) (told.Reserved None) = ⊤
FitsPoolCall (asked.Reserve size) (told.Reserved (Some chain)) = chain ≡ record { blocks = blocks_for size; bytes = [] }
FitsPoolCall (asked.Release chain) (told.Released (Ok done)) = ⊤
FitsPoolCall (asked.Release chain) (told.Released (Err back)) = back ≡ chain
FitsPoolCall call reply = ⊥

-- The request may raise the released count.
abbrev pub MayRelease : Asked → Type 0
MayRelease (asked.Reserve size) = ⊥
MayRelease (asked.Release chain) = ⊤

-- The replies after which the pool is unchanged: the refusals.
abbrev pub LeavesPool : Told → Type 0
LeavesPool (told.Reserved None) = ⊤
LeavesPool (told.Reserved (Some chain)) = ⊥
LeavesPool (told.Released (Ok done)) = ⊥
LeavesPool (told.Released (Err back)) = ⊤

-- The pool makes the turn and keeps its size, and the reply fits.
pub record PoolMoves (before : State) (call : Asked) (reply : Told) (after : State) : Type 0 where
  pub turn : MakesTurn before (pool_call call) (pool_reply reply) after
  pub size : after.size ≡ before.size
  pub fits : FitsPoolCall call reply
  pub leaves : LeavesPool reply → after ≡ before
