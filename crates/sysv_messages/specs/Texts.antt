-- The bodies of messages, and the chains of blocks that hold them (this profile's).
use Rattle.std.specs.Prelude.{ℕ, ℤ, List, Option, None, Some, length, map, sum_by}
use Rattle.sysv_model.specs.Message.{Message}
use Rattle.sysv_model.specs.Pool.{blocks_for}
use Rattle.sysv_pool.specs.Chain.{Chained}

-- The chain that holds a body: its bytes, in the number of blocks that they need.
abbrev pub chain_of : List ℕ → Chained
chain_of bytes = record { blocks = blocks_for (length bytes); bytes = bytes }

-- The number of blocks of the bodies of all these messages.
abbrev pub blocks_of : List Message → ℕ
blocks_of messages = sum_by (λ (m : Message). blocks_for (length m.bytes)) messages

-- The total number of bytes of the bodies of all these messages.
abbrev pub bytes_of : List Message → ℕ
bytes_of messages = sum_by (λ (m : Message). length m.bytes) messages

-- The types of the messages, in their order.
abbrev pub types_of : List Message → List ℤ
types_of messages = map (λ (m : Message). m.mtype) messages

-- The number of blocks of a chain, 0 if there is none.
abbrev pub blocks_in : Option Chained → ℕ
blocks_in None = 0
blocks_in (Some chain) = chain.blocks

-- The number of blocks of all these chains.
abbrev pub all_blocks : List (Option Chained) → ℕ
all_blocks chains = sum_by (λ (c : Option Chained). blocks_in c) chains
