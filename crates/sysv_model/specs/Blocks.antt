-- The body of a message in blocks of 64 bytes (this profile's; the standard has only whole bodies).
use Rattle.std.specs.Prelude.{ℕ, ◌*◌, List, take, drop}
use Rattle.sysv_model.specs.declared.limits.TheConstants.{BLOCK_BYTES}

-- Block k of a body, counted from 0. The last block may be shorter than 64 bytes; a block beyond
-- the end is empty.
abbrev pub block_of : ℕ → List ℕ → List ℕ
block_of k bytes = take BLOCK_BYTES (drop (k * BLOCK_BYTES) bytes)
