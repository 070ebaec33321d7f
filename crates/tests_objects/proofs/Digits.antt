-- 256 has nine binary digits.
use Rattle.std.proofs.Common.{◌≡◌, ℕ, ◌^◌, ◌<◌, ◌≤◌, lit<, refl, sym, inl, inr, arith}
use Rattle.std.proofs.Math.Nat.{pow-le-pow_right}
use Rattle.std.proofs.lemmas.Bool.{cases_lt}
use Rattle.sysv_rules.specs.Digits.{digits, one_digits}

at_least_nine : (j : ℕ) → 256 < 2 ^ j → 9 ≤ j
at_least_nine j h = elim (cases_lt j 9) [
  | inl less ↦
      let low : j ≤ 8 = omega arith in
      let most : 2 ^ j ≤ 2 ^ 8 = pow-le-pow_right {n = 2} (lit< tt) low in
      let is : 2 ^ 8 ≡ 256 = refl in
      absurd (omega arith)
  | inr more ↦ more
]

pub nine_digits : digits 256 ≡ 9
nine_digits = sym (one_digits 256 9 (lit< tt, at_least_nine))
