-- Sums over lists whose elements are looked up by their place.
use Rattle.std.proofs.Common.{◌≡◌, ◌≢◌, ℕ, zero, suc, ◌+◌, ◌≤◌, List, [], ◌∷◌, set, refl, sym, ap, arith, lt_of_not-le}
use Rattle.std.specs.Prelude.{sum_by}
use mathlib.Core.Logic.{dite}
use native.Mathlib.Decide.{dec_le}
use mathlib.Core.Option.{some, some-injective, some-ne-none}
use lib.ListN.{get_elem?}
use Rattle.std.proofs.lemmas.List.Sums.{sum_by-cons}

module _ {A : Type 0} (f : A → ℕ) where
  pub sum_by-set_at : (xs : List A) (i : ℕ) (a b : A) → get_elem? xs i ≡ some a →
      sum_by f (set xs i b) + f a ≡ sum_by f xs + f b
  sum_by-set_at [] i a b at = absurd (some-ne-none a (sym at))
  sum_by-set_at (x ∷ xs) zero a b at =
      let is : f x ≡ f a = ap f (some-injective x a at) in omega (arith, sum_by-cons f x xs, sum_by-cons f b xs)
  sum_by-set_at (x ∷ xs) (suc i) a b at =
      let r = sum_by-set_at xs i a b at in omega (arith, sum_by-cons f x xs, sum_by-cons f x (set xs i b))

  pub at-le-sum_by : (xs : List A) (i : ℕ) (a : A) → get_elem? xs i ≡ some a → f a ≤ sum_by f xs
  at-le-sum_by [] i a at = absurd (some-ne-none a (sym at))
  at-le-sum_by (x ∷ xs) zero a at =
      let is : f x ≡ f a = ap f (some-injective x a at) in omega (arith, sum_by-cons f x xs)
  at-le-sum_by (x ∷ xs) (suc i) a at = let r = at-le-sum_by xs i a at in omega (arith, sum_by-cons f x xs)

  -- Two elements have together at most the sum of all.
  pub two-le-sum_by : (xs : List A) (i k : ℕ) (a b : A) → k ≢ i → get_elem? xs i ≡ some a → get_elem? xs k ≡ some b →
      f a + f b ≤ sum_by f xs
  two-le-sum_by [] i k a b apart at there = absurd (some-ne-none a (sym at))
  two-le-sum_by (x ∷ xs) zero zero a b apart at there = absurd (apart refl)
  two-le-sum_by (x ∷ xs) zero (suc k) a b apart at there =
      let is : f x ≡ f a = ap f (some-injective x a at) in
      let r = at-le-sum_by xs k b there in
      omega (arith, sum_by-cons f x xs)
  two-le-sum_by (x ∷ xs) (suc i) zero a b apart at there =
      let is : f x ≡ f b = ap f (some-injective x b there) in
      let r = at-le-sum_by xs i a at in
      omega (arith, sum_by-cons f x xs)
  two-le-sum_by (x ∷ xs) (suc i) (suc k) a b apart at there =
      let r = two-le-sum_by xs i k a b (λ e. apart (ap suc e)) at there in omega (arith, sum_by-cons f x xs)

  -- If the sum is at least 1, one element has at least 1.
  pub some_part : (xs : List A) → 1 ≤ sum_by f xs → (i : ℕ) × (a : A) × (get_elem? xs i ≡ some a) × (1 ≤ f a)
  some_part [] most = absurd (omega arith)
  some_part (x ∷ xs) most =
      dite (dec_le 1 (f x)) (λ d. (0, x, refl, d))
      (λ nd.
      let less = lt_of_not-le nd in
      let r = some_part xs (omega (arith, sum_by-cons f x xs)) in
      (suc r.0, r.1, r.2, r.3))

  module _ (g : A → ℕ) where
    pub sum_by-le-each : (xs : List A) → ((i : ℕ) (a : A) → get_elem? xs i ≡ some a → f a ≤ g a) →
        sum_by f xs ≤ sum_by g xs
    sum_by-le-each [] each = omega arith
    sum_by-le-each (x ∷ xs) each =
        let first = each zero x refl in
        let rest = sum_by-le-each xs (λ i a at. each (suc i) a at) in
        omega (arith, sum_by-cons f x xs, sum_by-cons g x xs)

    -- If g is 0 wherever f is 0, and the sum of f is 0, then the sum of g is 0.
    pub sum_by-none : (xs : List A) → ((i : ℕ) (a : A) → get_elem? xs i ≡ some a → f a ≡ 0 → g a ≡ 0) →
        sum_by f xs ≤ 0 → sum_by g xs ≡ 0
    sum_by-none [] each none = refl
    sum_by-none (x ∷ xs) each none =
        let e = sum_by-cons f x xs in
        let first : g x ≡ 0 = each zero x refl (omega arith) in
        let rest = sum_by-none xs (λ i a at. each (suc i) a at) (omega arith) in
        omega (arith, sum_by-cons g x xs)

    -- If g is 0 wherever f is 0, and one element has the whole sum of f, then it has the whole sum
    -- of g.
    pub sum_by-alone : (xs : List A) (i : ℕ) (a : A) → get_elem? xs i ≡ some a →
        ((k : ℕ) (b : A) → get_elem? xs k ≡ some b → f b ≡ 0 → g b ≡ 0) → sum_by f xs ≤ f a → sum_by g xs ≡ g a
    sum_by-alone [] i a at each all = absurd (some-ne-none a (sym at))
    sum_by-alone (x ∷ xs) zero a at each all =
        let e = sum_by-cons f x xs in
        let is : f x ≡ f a = ap f (some-injective x a at) in
        let same : g x ≡ g a = ap g (some-injective x a at) in
        let rest = sum_by-none xs (λ k b there. each (suc k) b there) (omega arith) in
        omega (arith, sum_by-cons g x xs)
    sum_by-alone (x ∷ xs) (suc i) a at each all =
        let e = sum_by-cons f x xs in
        let part = at-le-sum_by xs i a at in
        let first : g x ≡ 0 = each zero x refl (omega arith) in
        let rest = sum_by-alone xs i a at (λ k b there. each (suc k) b there) (omega arith) in
        omega (arith, sum_by-cons g x xs)
