-- The numbers in frames (this project's profile): the highest byte first, signed numbers in two's
-- complement.
use Rattle.std.specs.Prelude.{ℕ, ℤ, List}
use Rattle.std.specs.Int.{w16, w32, w64, to_be_bytes, cast_unsigned}

-- A number in two bytes.
unfoldable pub u16_bytes : ℕ → List ℕ
u16_bytes n = to_be_bytes w16 n

-- A number in four bytes.
unfoldable pub u32_bytes : ℕ → List ℕ
u32_bytes n = to_be_bytes w32 n

-- A number in eight bytes.
unfoldable pub u64_bytes : ℕ → List ℕ
u64_bytes n = to_be_bytes w64 n

-- A signed number in four bytes.
unfoldable pub i32_bytes : ℤ → List ℕ
i32_bytes z = to_be_bytes w32 (cast_unsigned w32 z)

-- A signed number in eight bytes.
unfoldable pub i64_bytes : ℤ → List ℕ
i64_bytes z = to_be_bytes w64 (cast_unsigned w64 z)
