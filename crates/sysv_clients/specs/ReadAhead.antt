-- What a reader has read ahead (this project's programs).
use Rattle.std.specs.Prelude.{◌+◌, ◌&&◌, ℕ, Bool, List, length, nat_le}
use Rattle.std.specs.Int.{w32, from_be_bytes}
use Rattle.sysv_clients.specs.declared.read_ahead.TheConstants.{LENGTH_BYTES}

-- The bytes begin with a whole frame: its length field, which is the number of bytes that follow,
-- and all these bytes.
abbrev pub begins_with_frame : List ℕ → Bool
begins_with_frame bytes =
    nat_le LENGTH_BYTES (length bytes) && nat_le (LENGTH_BYTES + from_be_bytes w32 bytes) (length bytes)
