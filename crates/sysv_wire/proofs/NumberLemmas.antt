-- A number that is taken from the start of some bytes is encoded by them.
use Rattle.std.proofs.Common.{◌≡◌, ℕ, ℤ, ◌+◌, ◌^◌, ◌<◌, ◌≤◌, List, [], ◌++◌, length, get_or, take, drop, sym, ap, ◌∙◌}
use Rattle.std.proofs.Common.{arith, length-take, inl, inr}
use Rattle.std.specs.Int.{w16, w32, w64, to_be_bytes, from_be_bytes, cast_signed, cast_unsigned}
use Rattle.std.proofs.lemmas.Bool.{cases_lt}
use Rattle.std.proofs.lemmas.Int.{of_z-to_z}
use Rattle.std.proofs.lemmas.List.{take-append-drop, get_or-take, get_or_past, length-take-le, take_all, append-nil}
use Rattle.std.proofs.lemmas.List.{nil_from_length}
use Rattle.std.proofs.lemmas.Nat.{be_bytes_2, be_bytes_4, be_bytes_8}
use Rattle.sysv_wire.specs.Numbers.{u16_bytes, u32_bytes, u64_bytes, i32_bytes, i64_bytes}

abbrev pub IsBytes : List ℕ → Type 0
IsBytes bytes = (i : ℕ) → get_or bytes i 0 < 256

pub IsBytes-take : (n : ℕ) (bytes : List ℕ) → IsBytes bytes → IsBytes (take n bytes)
IsBytes-take n bytes h i =
    elim (cases_lt i n) [
      | inl lt ↦ rw (get_or-take n bytes i 0 lt) (h i)
      | inr le ↦ rw (get_or_past (take n bytes) i 0 (omega (arith, length-take n bytes))) (omega arith)
    ]

-- The first bytes, encoded again, and the bytes after them.
encoded_anew : (len : ℕ) (bytes front rest encoding : List ℕ) → front ≡ take len bytes → rest ≡ drop len bytes →
    encoding ≡ front → bytes ≡ encoding ++ rest
encoded_anew len bytes front rest encoding f r s = rw (s, f, r) (sym (take-append-drop len bytes))

IsBytes-front : (len : ℕ) (bytes front : List ℕ) → front ≡ take len bytes → IsBytes bytes → IsBytes front
IsBytes-front len bytes front f fits = rw f (IsBytes-take len bytes fits)

length_front : (len : ℕ) (bytes front : List ℕ) → front ≡ take len bytes → len ≤ length bytes → length front ≡ len
length_front len bytes front f within = ap length f ∙ length-take-le len bytes within

pub u16_front : (bytes front rest : List ℕ) (n : ℕ) → 2 ≤ length bytes → IsBytes bytes → front ≡ take 2 bytes →
    rest ≡ drop 2 bytes → n ≡ from_be_bytes w16 front → bytes ≡ u16_bytes n ++ rest
unfolding u16_bytes
u16_front bytes front rest n within fits f r e =
    encoded_anew 2 bytes front rest (u16_bytes n) f r
    (be_bytes_2 front n (length_front 2 bytes front f within) (IsBytes-front 2 bytes front f fits) e)

pub u32_front : (bytes front rest : List ℕ) (n : ℕ) → 4 ≤ length bytes → IsBytes bytes → front ≡ take 4 bytes →
    rest ≡ drop 4 bytes → n ≡ from_be_bytes w32 front → bytes ≡ u32_bytes n ++ rest
unfolding u32_bytes
u32_front bytes front rest n within fits f r e =
    encoded_anew 4 bytes front rest (u32_bytes n) f r
    (be_bytes_4 front n (length_front 4 bytes front f within) (IsBytes-front 4 bytes front f fits) e)

pub u64_front : (bytes front rest : List ℕ) (n : ℕ) → 8 ≤ length bytes → IsBytes bytes → front ≡ take 8 bytes →
    rest ≡ drop 8 bytes → n ≡ from_be_bytes w64 front → bytes ≡ u64_bytes n ++ rest
unfolding u64_bytes
u64_front bytes front rest n within fits f r e =
    encoded_anew 8 bytes front rest (u64_bytes n) f r
    (be_bytes_8 front n (length_front 8 bytes front f within) (IsBytes-front 8 bytes front f fits) e)

-- Four bytes with nothing after them.
pub u32_only : (bytes rest : List ℕ) (n : ℕ) → bytes ≡ u32_bytes n ++ rest → length bytes ≡ 4 + length rest →
    length bytes ≡ 4 → take 4 bytes ≡ u32_bytes n
u32_only bytes rest n e len four =
    let none : rest ≡ [] = nil_from_length rest (omega arith) in
    take_all 4 bytes (omega arith) ∙ e ∙ ap (λ l. u32_bytes n ++ l) none ∙ append-nil (u32_bytes n)

-- A signed number has the bytes of the number that it was made from.
pub i32_same : (n : ℕ) (z : ℤ) → n < 2 ^ 32 → z ≡ cast_signed w32 n →
    u32_bytes n ≡ i32_bytes (cast_signed w32 (cast_unsigned w32 z))
unfolding u32_bytes i32_bytes
i32_same n z lt e =
    let back : cast_unsigned w32 z ≡ n = ap (cast_unsigned w32) e ∙ of_z-to_z w32 n lt in
    let again : cast_unsigned w32 (cast_signed w32 (cast_unsigned w32 z)) ≡ n =
    ap (λ m. cast_unsigned w32 (cast_signed w32 m)) back ∙ of_z-to_z w32 n lt in
    ap (to_be_bytes w32) (sym again)

pub i64_same : (n : ℕ) (z : ℤ) → n < 2 ^ 64 → z ≡ cast_signed w64 n →
    u64_bytes n ≡ i64_bytes (cast_signed w64 (cast_unsigned w64 z))
unfolding u64_bytes i64_bytes
i64_same n z lt e =
    let back : cast_unsigned w64 z ≡ n = ap (cast_unsigned w64) e ∙ of_z-to_z w64 n lt in
    let again : cast_unsigned w64 (cast_signed w64 (cast_unsigned w64 z)) ≡ n =
    ap (λ m. cast_unsigned w64 (cast_signed w64 m)) back ∙ of_z-to_z w64 n lt in
    ap (to_be_bytes w64) (sym again)
