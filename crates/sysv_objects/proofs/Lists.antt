-- Places in lists.
use Rattle.std.proofs.Common.{◌≡◌, ◌≢◌, ◌⊎◌, inl, inr, ℕ, zero, suc, List, [], ◌∷◌, Some, refl, ap, arith, slice_get}
use Rattle.std.proofs.Common.{slice_set}

-- The elements of a list after one place was changed.
pub get_set : {X : Type 0} (xs : List X) (i j : ℕ) (x y : X) → slice_get (slice_set xs i x) j ≡ Some y →
    ((i ≡ j) × (x ≡ y)) ⊎ ((i ≢ j) × (slice_get xs j ≡ Some y))
get_set [] i j x y e = absurd cc
get_set (z ∷ xs) zero zero x y e = inl (refl, cc)
get_set (z ∷ xs) zero (suc j) x y e = inr ((λ s. omega arith), e)
get_set (z ∷ xs) (suc i) zero x y e = inr ((λ s. omega arith), e)
get_set (z ∷ xs) (suc i) (suc j) x y e = elim (get_set xs i j x y e) [
  | inl h ↦ inl (ap suc h.0, h.1)
  | inr h ↦ inr ((λ s. h.0 (omega arith)), h.1)
]

-- The elements at the other places.
pub get_beside : {X : Type 0} (xs : List X) (i j : ℕ) (x : X) → j ≢ i → slice_get (slice_set xs i x) j ≡ slice_get xs j
get_beside [] i j x other = refl
get_beside (z ∷ xs) zero zero x other = absurd (other refl)
get_beside (z ∷ xs) zero (suc j) x other = refl
get_beside (z ∷ xs) (suc i) zero x other = refl
get_beside (z ∷ xs) (suc i) (suc j) x other = get_beside xs i j x (λ same. other (ap suc same))
