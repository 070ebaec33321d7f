-- Places in lists, and what is kept of each element.
use Rattle.std.proofs.Common.{◌≡◌, ◌≢◌, ℕ, zero, suc, ◌+◌, List, [], ◌∷◌, Some, refl, sym, ap, map, slice_get}
use Rattle.std.proofs.Common.{slice_set, replicate, ◌∙◌, None}
use Rattle.std.specs.List.{sum_by}
use Rattle.std.proofs.lemmas.List.Sums.{sum_by-set}
use Rattle.std.proofs.lemmas.List.{set-get_or}
use Rattle.std.proofs.lemmas.Option.{get_or_from_slice_get, slice_get_within}

pub slice_set-same : {X : Type 0} (xs : List X) (i : ℕ) (x : X) → slice_get xs i ≡ Some x → slice_set xs i x ≡ xs
slice_set-same xs i x e = ap (slice_set xs i) (sym (get_or_from_slice_get xs i x x e)) ∙ set-get_or xs i x

pub map-replicate : {X Y : Type 0} (f : X → Y) (n : ℕ) (x : X) → map f (replicate n x) ≡ replicate n (f x)
map-replicate f zero x = refl
map-replicate f (suc n) x = ap (λ ys. f x ∷ ys) (map-replicate f n x)

-- No place of a list of `None` has an element.
pub none_busy : {X : Type 0} {x : X} (n place : ℕ) → slice_get (replicate n None) place ≡ Some (Some x) → ⊥
none_busy zero place e = cc
none_busy (suc n) zero e = cc
none_busy (suc n) (suc place) e = none_busy n place e

pub get_set_same : {X : Type 0} (xs : List X) (i : ℕ) (x y : X) → slice_get xs i ≡ Some y →
    slice_get (slice_set xs i x) i ≡ Some x
get_set_same [] i x y e = absurd cc
get_set_same (z ∷ xs) zero x y e = refl
get_set_same (z ∷ xs) (suc i) x y e = get_set_same xs i x y e

pub get_set_other : {X : Type 0} (xs : List X) (i j : ℕ) (x : X) → i ≢ j →
    slice_get (slice_set xs i x) j ≡ slice_get xs j
get_set_other [] i j x f = refl
get_set_other (z ∷ xs) zero zero x f = absurd (f refl)
get_set_other (z ∷ xs) zero (suc j) x f = refl
get_set_other (z ∷ xs) (suc i) zero x f = refl
get_set_other (z ∷ xs) (suc i) (suc j) x f = get_set_other xs i j x (λ e. f (ap suc e))

-- A sum after one element was replaced.
pub sum_set : {X : Type 0} (f : X → ℕ) (xs : List X) (i : ℕ) (x y : X) → slice_get xs i ≡ Some x →
    sum_by f (slice_set xs i y) + f x ≡ sum_by f xs + f y
sum_set f xs i x y e = ap (λ z. sum_by f (slice_set xs i y) + f z) (sym (get_or_from_slice_get xs i x x e))
    ∙ sum_by-set f xs i y x (slice_get_within xs i x e)
