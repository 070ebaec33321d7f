-- The elements of a list by their place, and properties of each of them.
use Rattle.std.proofs.Common.{◌≡◌, ◌≢◌, ℕ, zero, suc, ◌<◌, ◌⊎◌, inl, inr, ⊎_elim, List, [], ◌∷◌, ◌++◌, length, set, sym}
use Rattle.std.proofs.Common.{refl, ap, ◌∙◌, subst, arith}
use mathlib.Core.Logic.{dite}
use native.Mathlib.Decide.{ℕ_discrete}
use mathlib.Core.Option.{some, some-injective, some-ne-none}
use lib.ListN.{get_elem?}

module _ {A : Type 0} where
  pub at_below : (xs : List A) (i : ℕ) (a : A) → get_elem? xs i ≡ some a → i < length xs
  at_below [] i a at = absurd (some-ne-none a (sym at))
  at_below (x ∷ xs) zero a at = omega arith
  at_below (x ∷ xs) (suc i) a at = let r = at_below xs i a at in omega arith

  -- There is an element at each place below the length.
  pub there : (xs : List A) (i : ℕ) → i < length xs → (a : A) × (get_elem? xs i ≡ some a)
  there [] i less = absurd (omega arith)
  there (x ∷ xs) zero less = (x, refl)
  there (x ∷ xs) (suc i) less = there xs i (omega arith)

  pub at_snoc_place : (xs : List A) (b a : A) (k : ℕ) → get_elem? (xs ++ b ∷ []) k ≡ some a →
      (get_elem? xs k ≡ some a) ⊎ ((k ≡ length xs) × (b ≡ a))
  at_snoc_place [] b a zero at = inr (refl, some-injective b a at)
  at_snoc_place [] b a (suc k) at = absurd (some-ne-none a (sym at))
  at_snoc_place (x ∷ xs) b a zero at = inl at
  at_snoc_place (x ∷ xs) b a (suc k) at = ⊎_elim inl (λ t. inr (ap suc t.0, t.1)) (at_snoc_place xs b a k at)

  pub set_at : (xs : List A) (i : ℕ) (a b : A) → get_elem? xs i ≡ some a → get_elem? (set xs i b) i ≡ some b
  set_at [] i a b at = absurd (some-ne-none a (sym at))
  set_at (x ∷ xs) zero a b at = refl
  set_at (x ∷ xs) (suc i) a b at = set_at xs i a b at

  -- An element after one was replaced is the new one or was there before.
  pub at_set : (xs : List A) (i k : ℕ) (b a : A) → get_elem? (set xs i b) k ≡ some a →
      ((k ≡ i) × (b ≡ a)) ⊎ ((k ≢ i) × (get_elem? xs k ≡ some a))
  at_set [] i k b a at = absurd (some-ne-none a (sym at))
  at_set (x ∷ xs) zero zero b a at = inl (refl, some-injective b a at)
  at_set (x ∷ xs) zero (suc k) b a at = inr ((λ e. omega arith), at)
  at_set (x ∷ xs) (suc i) zero b a at = inr ((λ e. omega arith), at)
  at_set (x ∷ xs) (suc i) (suc k) b a at =
      ⊎_elim (λ t. inl (ap suc t.0, t.1)) (λ t. let apart = t.0 in inr ((λ e. apart (omega arith)), t.1))
      (at_set xs i k b a at)

  pub set_else : (xs : List A) (i k : ℕ) (b : A) → k ≢ i → get_elem? (set xs i b) k ≡ get_elem? xs k
  set_else [] i k b apart = refl
  set_else (x ∷ xs) zero zero b apart = absurd (apart refl)
  set_else (x ∷ xs) zero (suc k) b apart = refl
  set_else (x ∷ xs) (suc i) zero b apart = refl
  set_else (x ∷ xs) (suc i) (suc k) b apart = set_else xs i k b (λ e. apart (ap suc e))

  -- There is only one element at a place.
  pub one_there : (xs : List A) (i k : ℕ) (a b : A) → k ≡ i → get_elem? xs i ≡ some a → get_elem? xs k ≡ some b → b ≡ a
  one_there xs i k a b same at there = some-injective b a (sym there ∙ ap (λ (n : ℕ). get_elem? xs n) same ∙ at)

  -- What holds of each element holds after one of them was replaced.
  pub each_set : (P Q : A → Type 0) (xs : List A) (i : ℕ) (b : A) → ((k : ℕ) (a : A) → get_elem? xs k ≡ some a → P a)
      → ((k : ℕ) (a : A) → k ≢ i → get_elem? xs k ≡ some a → P a → Q a) → Q b → (k : ℕ) (a : A)
      → get_elem? (set xs i b) k ≡ some a → Q a
  each_set P Q xs i b all goes here k a at =
      ⊎_elim (λ t. subst Q t.1 here) (λ t. goes k a t.0 t.1 (all k a t.1)) (at_set xs i k b a at)

  -- What holds of each element holds after one was appended.
  pub each_snoc : (P : A → Type 0) (xs : List A) (b : A) → ((k : ℕ) (a : A) → get_elem? xs k ≡ some a → P a) → P b
      → (k : ℕ) (a : A) → get_elem? (xs ++ b ∷ []) k ≡ some a → P a
  each_snoc P xs b all here k a at = ⊎_elim (λ t. all k a t) (λ t. subst P t.1 here) (at_snoc_place xs b a k at)

  -- What holds of each element after one was replaced held before, if it held of the replaced one.
  pub each_before : (P : A → Type 0) (xs : List A) (i : ℕ) (a b : A) → get_elem? xs i ≡ some a
      → ((k : ℕ) (c : A) → get_elem? (set xs i b) k ≡ some c → P c) → P a
      → (k : ℕ) (c : A) → get_elem? xs k ≡ some c → P c
  each_before P xs i a b at all here k c there =
      dite (ℕ_discrete k i) (λ e. subst P (sym (one_there xs i k a c e at there)) here)
      (λ ne. all k c (set_else xs i k b ne ∙ there))
