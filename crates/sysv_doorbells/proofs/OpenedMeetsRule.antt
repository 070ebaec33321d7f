-- Proves that the rule holds when doorbells are opened.
use Rattle.std.proofs.Common.{◌≡◌, ◌≢◌, ℕ, zero, suc, ◌+◌, ◌*◌, List, [], ◌∷◌, replicate, length, get_or, sym, refl, ap}
use Rattle.std.proofs.Common.{◌∙◌, arith}
use mathlib.Core.Option.{some, some-ne-none, some-injective}
use lib.ListN.{get_elem?}
use Rattle.std.proofs.lemmas.List.Sums.{sum_by-cons}
use Rattle.atomic_table.specs.Table.{opening}
use Rattle.sysv_doorbells.specs.declared.view.View.{View}
use Rattle.sysv_doorbells.specs.declared.view.Stage.TheVariants.{Away, Read, Ready}
use Rattle.sysv_doorbells.specs.Rule.{is_inside, is_at, has_rung, here, Kept, away}
use Rattle.sysv_doorbells.proofs.Counts.{none_here, apart}

zero_at : (n i : ℕ) → get_or (replicate {A = ℕ} n 0) i 0 ≡ 0
zero_at zero i = refl
zero_at (suc n) zero = refl
zero_at (suc n) (suc i) = zero_at n i

length_zeros : (n : ℕ) → length (replicate {A = ℕ} n 0) ≡ n
length_zeros zero = refl
length_zeros (suc n) = ap suc (length_zeros n)

first_only : (k : ℕ) (v : View) → get_elem? (away ∷ []) k ≡ some v → Away ≡ v.stage
first_only zero v at = ap (λ (u : View). u.stage) (some-injective away v at)
first_only (suc k) v at = absurd (some-ne-none v (sym at))

pub opens : (many n : ℕ) (ws : List ℕ) → ws ≡ replicate {A = ℕ} n 0 → n ≡ 2 * many + 2 →
    Kept many (opening ws [] away)
opens many n ws is size few =
    let all_zero : (i : ℕ) → get_or ws i 0 ≡ 0 = λ i. ap (λ l. get_or l i 0) is ∙ zero_at n i in
    let first = all_zero 1 in
    let long : length ws ≡ 2 * many + 2 = ap length is ∙ length_zeros n ∙ size in
    record {
      size = long;
      sleepers = let z = all_zero 0 in omega (arith, sum_by-cons (λ (u : View). is_inside u.stage) away []);
      called = omega arith;
      entered = λ at bell. let z = all_zero at in let o = none_here is_at at away refl in
          omega (arith, sum_by-cons (here is_at at) away []);
      rung = λ at bell. let z = all_zero (at + 1) in let o = none_here has_rung at away refl in
          omega (arith, sum_by-cons (here has_rung at) away []);
      read = λ k v at e. absurd (apart Away Read (λ z. omega arith) (first_only k v at ∙ e));
      ready = λ k v at e. absurd (apart Away Ready (λ z. omega arith) (first_only k v at ∙ e));
    }
