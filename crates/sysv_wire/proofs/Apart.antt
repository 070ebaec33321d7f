-- Two lists of bytes that begin with fields of the same length: if the lists are equal, the fields
-- are equal, and so are the rests.
use Rattle.std.proofs.Common.{◌≡◌, ℕ, ℤ, ◌^◌, ◌<◌, List, ◌++◌, length, take, drop, refl, sym, ap, ◌∙◌, append_assoc}
use Rattle.std.specs.Int.{w16, w32, w64, from_be_bytes, cast_unsigned, cast_signed}
use Rattle.std.specs.Int.RustNames.{FitsSigned}
use Rattle.std.proofs.Math.Facts.{Fits-of_z}
use Rattle.std.proofs.lemmas.Int.{to_z-of_z}
use Rattle.std.proofs.lemmas.List.{take_at, drop_at}
use Rattle.std.proofs.lemmas.Nat.{from_be_bytes-to_be_bytes_2, from_be_bytes-to_be_bytes_4, from_be_bytes-to_be_bytes_8}
use Rattle.sysv_wire.specs.Frames.{frame}
use Rattle.sysv_wire.specs.Numbers.{u16_bytes, u32_bytes, u64_bytes, i32_bytes, i64_bytes}

pub fronts_alike : (a b x y : List ℕ) → length a ≡ length b → a ++ x ≡ b ++ y → a ≡ b
fronts_alike a b x y len e = sym (take_at a x (length b) len) ∙ ap (take (length b)) e ∙ take_at b y (length b) refl

pub rests_alike : (a b x y : List ℕ) → length a ≡ length b → a ++ x ≡ b ++ y → x ≡ y
rests_alike a b x y len e = sym (drop_at a x (length b) len) ∙ ap (drop (length b)) e ∙ drop_at b y (length b) refl

pub u16_same : (m n : ℕ) → m < 2 ^ 16 → n < 2 ^ 16 → u16_bytes m ≡ u16_bytes n → m ≡ n
unfolding u16_bytes
u16_same m n low high e =
    sym (from_be_bytes-to_be_bytes_2 m low) ∙ ap (from_be_bytes w16) e ∙ from_be_bytes-to_be_bytes_2 n high

pub u32_same : (m n : ℕ) → m < 2 ^ 32 → n < 2 ^ 32 → u32_bytes m ≡ u32_bytes n → m ≡ n
unfolding u32_bytes
u32_same m n low high e =
    sym (from_be_bytes-to_be_bytes_4 m low) ∙ ap (from_be_bytes w32) e ∙ from_be_bytes-to_be_bytes_4 n high

pub u64_same : (m n : ℕ) → m < 2 ^ 64 → n < 2 ^ 64 → u64_bytes m ≡ u64_bytes n → m ≡ n
unfolding u64_bytes
u64_same m n low high e =
    sym (from_be_bytes-to_be_bytes_8 m low) ∙ ap (from_be_bytes w64) e ∙ from_be_bytes-to_be_bytes_8 n high

pub i32_same : (y z : ℤ) → FitsSigned w32 y → FitsSigned w32 z → i32_bytes y ≡ i32_bytes z → y ≡ z
unfolding i32_bytes
i32_same y z low high e =
    let bits : cast_unsigned w32 y ≡ cast_unsigned w32 z =
    sym (from_be_bytes-to_be_bytes_4 (cast_unsigned w32 y) (Fits-of_z low).fits) ∙ ap (from_be_bytes w32) e
    ∙ from_be_bytes-to_be_bytes_4 (cast_unsigned w32 z) (Fits-of_z high).fits in
    sym (to_z-of_z w32 y low) ∙ ap (cast_signed w32) bits ∙ to_z-of_z w32 z high

pub i64_same : (y z : ℤ) → FitsSigned w64 y → FitsSigned w64 z → i64_bytes y ≡ i64_bytes z → y ≡ z
unfolding i64_bytes
i64_same y z low high e =
    let bits : cast_unsigned w64 y ≡ cast_unsigned w64 z =
    sym (from_be_bytes-to_be_bytes_8 (cast_unsigned w64 y) (Fits-of_z low).fits) ∙ ap (from_be_bytes w64) e
    ∙ from_be_bytes-to_be_bytes_8 (cast_unsigned w64 z) (Fits-of_z high).fits in
    sym (to_z-of_z w64 y low) ∙ ap (cast_signed w64) bits ∙ to_z-of_z w64 z high

-- The lists begin with one number each.
pub u16_step : (m n : ℕ) (x y : List ℕ) → m < 2 ^ 16 → n < 2 ^ 16 → u16_bytes m ++ x ≡ u16_bytes n ++ y →
    (m ≡ n) × (x ≡ y)
unfolding u16_bytes
u16_step m n x y low high e = (
  u16_same m n low high (fronts_alike (u16_bytes m) (u16_bytes n) x y refl e),
  rests_alike (u16_bytes m) (u16_bytes n) x y refl e,
)

pub u32_step : (m n : ℕ) (x y : List ℕ) → m < 2 ^ 32 → n < 2 ^ 32 → u32_bytes m ++ x ≡ u32_bytes n ++ y →
    (m ≡ n) × (x ≡ y)
unfolding u32_bytes
u32_step m n x y low high e = (
  u32_same m n low high (fronts_alike (u32_bytes m) (u32_bytes n) x y refl e),
  rests_alike (u32_bytes m) (u32_bytes n) x y refl e,
)

pub u64_step : (m n : ℕ) (x y : List ℕ) → m < 2 ^ 64 → n < 2 ^ 64 → u64_bytes m ++ x ≡ u64_bytes n ++ y →
    (m ≡ n) × (x ≡ y)
unfolding u64_bytes
u64_step m n x y low high e = (
  u64_same m n low high (fronts_alike (u64_bytes m) (u64_bytes n) x y refl e),
  rests_alike (u64_bytes m) (u64_bytes n) x y refl e,
)

pub i32_step : (m n : ℤ) (x y : List ℕ) → FitsSigned w32 m → FitsSigned w32 n → i32_bytes m ++ x ≡ i32_bytes n ++ y →
    (m ≡ n) × (x ≡ y)
unfolding i32_bytes
i32_step m n x y low high e = (
  i32_same m n low high (fronts_alike (i32_bytes m) (i32_bytes n) x y refl e),
  rests_alike (i32_bytes m) (i32_bytes n) x y refl e,
)

pub i64_step : (m n : ℤ) (x y : List ℕ) → FitsSigned w64 m → FitsSigned w64 n → i64_bytes m ++ x ≡ i64_bytes n ++ y →
    (m ≡ n) × (x ≡ y)
unfolding i64_bytes
i64_step m n x y low high e = (
  i64_same m n low high (fronts_alike (i64_bytes m) (i64_bytes n) x y refl e),
  rests_alike (i64_bytes m) (i64_bytes n) x y refl e,
)

-- The lists begin with one frame each.
pub frames_alike : (a b x y : List ℕ) → length a < 2 ^ 32 → length b < 2 ^ 32 → frame a ++ x ≡ frame b ++ y →
    (a ≡ b) × (x ≡ y)
unfolding frame
frames_alike a b x y low high e =
    let apart = u32_step (length a) (length b) (a ++ x) (b ++ y) low high
    (sym (append_assoc (u32_bytes (length a)) a x) ∙ e ∙ append_assoc (u32_bytes (length b)) b y) in
    (fronts_alike a b x y apart.0 apart.1, rests_alike a b x y apart.0 apart.1)
