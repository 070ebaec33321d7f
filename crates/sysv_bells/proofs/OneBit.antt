-- One bit of a word.
use Rattle.std.proofs.Common.{◌≡◌, ◌≢◌, ℕ, ◌*◌, ◌%◌, ◌^◌, ◌<◌, bit_and, ap, ◌∙◌, arith}
use Rattle.std.specs.Int.{bit_at}
use mathlib.Core.Logic.{dite}
use native.Mathlib.Decide.{ℕ_discrete}
use Rattle.std.proofs.lemmas.Nat.{pow_below}
use Rattle.std.proofs.lemmas.Nat.Bits.{bit_at-pow_same, bit_at-lt, and_pow}

power : (k : ℕ) → k < 64 → 1 * 2 ^ k % 18446744073709551616 ≡ 2 ^ k
power k less = let p : 2 ^ k < 18446744073709551616 = pow_below k 64 less in omega arith

-- `1 << k` has the bit k.
pub has_bit : (k : ℕ) → k < 64 → bit_at (1 * 2 ^ k % 18446744073709551616) k ≡ 1
has_bit k less = ap (λ (n : ℕ). bit_at n k) (power k less) ∙ bit_at-pow_same k

-- If `n & (1 << k)` is not 0, n has the bit k.
pub was_set : (n k : ℕ) → k < 64 → bit_and n (1 * 2 ^ k % 18446744073709551616) ≢ 0 → bit_at n k ≡ 1
was_set n k less some_bit =
    let low = bit_at-lt n k in
    dite (ℕ_discrete (bit_at n k) 0)
    (λ e.
    let none : bit_at n k * 2 ^ k ≡ 0 * 2 ^ k = ap (λ (m : ℕ). m * 2 ^ k) e in
    let zero_product : 0 * 2 ^ k ≡ 0 = omega arith in
    absurd (some_bit (ap (λ (m : ℕ). bit_and n m) (power k less) ∙ and_pow n k ∙ none ∙ zero_product)))
    (λ ne. omega arith)
