-- Places of lists, numbers that are equal or not, and the names of calls.
use Rattle.std.proofs.Common.{◌≡◌, ◌≢◌, ◌⊎◌, inl, inr, ℕ, zero, suc, ◌≤◌, ◌==◌, ◌&&◌, Bool, true, false, List, [], ◌∷◌}
use Rattle.std.proofs.Common.{Some, refl, sym, ap, subst, ◌∙◌, arith, slice_get, slice_set}
use Rattle.std.specs.List.{sum_by}
use Rattle.std.proofs.lemmas.List.Sums.{sum_by-cons}
use Rattle.std.proofs.lemmas.Bool.Decides.{eqb_tells}
use Rattle.sysv_model.specs.History.{Who}
use Rattle.sysv_model.specs.Turn.{is_same}
use Rattle.sysv_thread_laws.specs.Execution.{nobody}
use Rattle.sysv_thread_laws.specs.OrderIsRun.{name_at}

-- ---- numbers

pub same_or_other : (m n : ℕ) → (m ≡ n) ⊎ (m ≢ n)
same_or_other m n = elim (eqb_tells m n) [ inl same ↦ inl same.1 | inr other ↦ inr other.1 ]

pub number_same : (n : ℕ) → (n == n) ≡ true
number_same n = elim (eqb_tells n n) [ inl same ↦ same.0 | inr other ↦ absurd (other.1 refl) ]

pub number_other : (m n : ℕ) → m ≢ n → (m == n) ≡ false
number_other m n apart = elim (eqb_tells m n) [ inl same ↦ absurd (apart same.1) | inr other ↦ other.0 ]

pub none_or_some : (n : ℕ) → (n ≡ 0) ⊎ (1 ≤ n)
none_or_some zero = inl refl
none_or_some (suc n) = inr (omega arith)

pub and_false : (a : Bool) → (a && false) ≡ false
and_false true = refl
and_false false = refl

-- ---- places

pub get_set_same : {X : Type 0} (xs : List X) (i : ℕ) (x y : X) → slice_get xs i ≡ Some y →
    slice_get (slice_set xs i x) i ≡ Some x
get_set_same [] i x y e = absurd cc
get_set_same (z ∷ xs) zero x y e = refl
get_set_same (z ∷ xs) (suc i) x y e = get_set_same xs i x y e

pub get_set_other : {X : Type 0} (xs : List X) (i j : ℕ) (x : X) → i ≢ j →
    slice_get (slice_set xs i x) j ≡ slice_get xs j
get_set_other [] i j x f = refl
get_set_other (z ∷ xs) zero zero x f = absurd (f refl)
get_set_other (z ∷ xs) zero (suc j) x f = refl
get_set_other (z ∷ xs) (suc i) zero x f = refl
get_set_other (z ∷ xs) (suc i) (suc j) x f = get_set_other xs i j x (λ e. f (ap suc e))

pub set_same : {X : Type 0} (xs : List X) (i : ℕ) (x : X) → slice_get xs i ≡ Some x → slice_set xs i x ≡ xs
set_same [] i x e = refl
set_same (y ∷ xs) zero x e = let same : y ≡ x = cc in ap (λ z. z ∷ xs) (sym same)
set_same (y ∷ xs) (suc i) x e = ap (λ ys. y ∷ ys) (set_same xs i x e)

pub sums_alike : {X : Type 0} (f g : X → ℕ) (xs : List X) → ((x : X) → f x ≡ g x) → sum_by f xs ≡ sum_by g xs
sums_alike f g [] same = refl
sums_alike f g (x ∷ xs) same = omega (arith, sum_by-cons f x xs, sum_by-cons g x xs, same x, sums_alike f g xs same)

-- ---- names

pub same_name : (who : Who) (place : ℕ) → who ≡ name_at place → is_same who who ≡ true
same_name who place is =
    subst (λ name. is_same name name ≡ true) (sym is)
    (ap (λ b. b && (place == place)) (number_same (suc place)) ∙ number_same place)

pub other_name : (who other : Who) (place at : ℕ) → who ≡ name_at place → other ≡ name_at at → at ≢ place →
    is_same who other ≡ false
other_name who other place at is that apart =
    ap (λ name. is_same name other) is
    ∙ (ap (is_same (name_at place)) that
    ∙ (ap (λ b. (suc place == suc at) && b) (number_other place at (λ e. apart (sym e)))
    ∙ and_false (suc place == suc at)))

pub not_nobody : (who : Who) (place : ℕ) → who ≡ name_at place → is_same who nobody ≡ false
not_nobody who place is =
    ap (λ name. is_same name nobody) is ∙ ap (λ b. b && (place == 0)) (number_other (suc place) 0 (λ e. omega arith))
