-- The number of binary digits of a number (this project's profile; the standard sets no bound on
-- work). digits n is the least k with n < 2 ^ k, so 0 has none and 256 has nine.
use Rattle.std.specs.Prelude.{◌≡◌, ℕ, ◌^◌, ◌<◌, ◌≤◌}
use Rattle.std.proofs.Common.{zero, suc, ◌⊎◌, inl, inr, lit<, arith}
use Rattle.std.proofs.Math.Nat.{two-pow-succ, pow-le-pow_right}
use Rattle.std.proofs.lemmas.Nat.{pow_pos}
use Rattle.std.proofs.lemmas.Bool.{cases_lt}

-- k is the number of binary digits of n: n is below 2 ^ k, and below no smaller power of 2.
abbrev pub IsDigits : ℕ → ℕ → Type 0
IsDigits n k = (n < 2 ^ k) × ((j : ℕ) → n < 2 ^ j → k ≤ j)

-- If n is at least 2 ^ k, each power of 2 above n has an exponent above k.
more_digits : (n k j : ℕ) → 2 ^ k ≤ n → n < 2 ^ j → (k < j) ⊎ (j ≤ k) → suc k ≤ j
more_digits n k j over below (inl more) = omega arith
more_digits n k j over below (inr less) = let h = pow-le-pow_right {n = 2} (lit< tt) less in absurd (omega arith)

-- n + 1 has the same number of digits as n, or one more.
next_digits : (n k : ℕ) → IsDigits n k → (k : ℕ) × IsDigits (suc n) k
next_digits n k (below, least) = elim (cases_lt (suc n) (2 ^ k)) [
  | inl fits ↦ (k, (fits, λ j h. least j (omega arith)))
  | inr over ↦ (suc k, (omega (arith, two-pow-succ k, pow_pos k), λ j h. more_digits (suc n) k j over h (cases_lt k j)))
]

-- Each number has a number of digits.
pub some_digits : (n : ℕ) → (k : ℕ) × IsDigits n k
some_digits zero = (0, (lit< tt, λ j h. omega arith))
some_digits (suc n) = let w = some_digits n in next_digits n w.0 w.1

-- The number of binary digits of a number.
pub digits : ℕ → ℕ
digits n = (some_digits n).0

-- digits n is the number of binary digits of n: 2 ^ digits n is the least power of 2 above n.
pub digits-is : (n : ℕ) → IsDigits n (digits n)
unfolding digits
digits-is n = (some_digits n).1

-- No other number is the number of binary digits of n.
pub one_digits : (n k : ℕ) → IsDigits n k → k ≡ digits n
one_digits n k (below, least) = let d = digits-is n in omega (arith, least (digits n) d.0, d.1 k below)
