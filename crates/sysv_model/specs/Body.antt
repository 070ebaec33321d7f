-- How a body stores its bytes (this profile's): in blocks of 64 bytes, each in a box of its own.
use Rattle.std.specs.Prelude.{◌≡◌, ℕ, ◌*◌, ◌≤◌, List, [], ◌∷◌, ◌++◌, length}
use Rattle.std.specs.declared.alloc.Global.{Global}
use Rattle.std.specs.declared.boxed.Box.{Box}
use Rattle.sysv_model.specs.declared.limits.TheConstants.{BLOCK_BYTES, BODY_ROOM}

-- The bytes of the blocks, one block after the other.
abbrev pub bytes_of : List (Box (List ℕ) Global) → List ℕ
bytes_of [] = []
bytes_of (block ∷ blocks) = block.value ++ bytes_of blocks

-- Each block has exactly 64 bytes.
abbrev pub AreWhole : List (Box (List ℕ) Global) → Type 0
AreWhole [] = Unit {0}
AreWhole (block ∷ blocks) = (length block.value ≡ BLOCK_BYTES) × AreWhole blocks

-- The blocks are whole and together have 8,256 bytes, and the body is at most that long.
pub record HasRoom (blocks : List (Box (List ℕ) Global)) (len : ℕ) : Type 0 where
  pub whole : AreWhole blocks
  pub room : length blocks * BLOCK_BYTES ≡ BODY_ROOM
  pub within : len ≤ BODY_ROOM
