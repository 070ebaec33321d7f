-- The blocks that hold the bodies of messages (this profile's). The body of each message has a
-- chain with the smallest number of blocks that hold it.
use Rattle.std.specs.Prelude.{ℕ, List, length, sum_by}
use Rattle.sysv_model.specs.Message.{Message}
use Rattle.sysv_model.specs.Pool.{blocks_for}
use Rattle.sysv_pool.specs.Chain.{Chained}

-- The chain that holds a body: its bytes, in the number of blocks that they need.
abbrev pub chain_of : List ℕ → Chained
chain_of bytes = record { blocks = blocks_for (length bytes); bytes = bytes }

-- The number of blocks of the bodies of all these messages.
abbrev pub blocks_of : List Message → ℕ
blocks_of messages = sum_by (λ (m : Message). blocks_for (length m.bytes)) messages
