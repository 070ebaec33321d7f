-- Lists read at a place, and lists without the elements of one number.
use Rattle.std.proofs.Common.{◌≡◌, ◌≢◌, ℕ, zero, suc, ◌+◌, ◌<◌, ◌≤◌, ◌==◌, Bool, true, false, not, List, [], ◌∷◌, Some}
use Rattle.std.proofs.Common.{length, cond, get_or, refl, sym, ap, subst, ◌∙◌, ◌⊎◌, inl, inr, arith}
use Rattle.std.specs.List.{All, AllPairs, AllWithin, Contains, filter, insert, remove, slice_get}
use Rattle.std.proofs.lemmas.Bool.{cases_order}
use Rattle.std.proofs.lemmas.Bool.Decides.{Decides-eqb}
use Rattle.std.proofs.lemmas.List.Edits.{length-insert, get_or-insert_below, get_or-insert_at, get_or-insert_above}
use Rattle.std.proofs.lemmas.List.Elements.{All-head, All-tail}
use Rattle.std.proofs.lemmas.Option.{slice_get-get_or, slice_get_within, get_or_from_slice_get, same_Some}

pub one_number : (a b : ℕ) → (a == b) ≡ true → a ≡ b
one_number a b e = (Decides-eqb a b).0 e

pub same_number : (a b : ℕ) → a ≡ b → (a == b) ≡ true
same_number a b e = (Decides-eqb a b).1 e

pub not_true : (t : Bool) → (t ≡ true → ⊥) → t ≡ false
not_true true f = absurd (f refl)
not_true false f = refl

pub other_number : (a b : ℕ) → a ≢ b → (a == b) ≡ false
other_number a b f = not_true (a == b) (λ e. f (one_number a b e))

pub never_both : (t : Bool) → t ≡ true → t ≡ false → ⊥
never_both t e f = let bad : true ≡ false = sym e ∙ f in cc

-- There is an element at each place below the length.
pub there_is : {X : Type 0} (xs : List X) (i : ℕ) → i < length xs → (x : X) × (slice_get xs i ≡ Some x)
there_is [] i within = absurd (omega arith)
there_is (x ∷ xs) zero within = (x, refl)
there_is (x ∷ xs) (suc i) within = there_is xs i (omega arith)

pub one_there : {X : Type 0} (xs : List X) (i : ℕ) (x y : X) → slice_get xs i ≡ Some x → slice_get xs i ≡ Some y → x ≡ y
one_there xs i x y a b = same_Some x y (sym a ∙ b)

-- An element of a list is at some place of it.
pub place_of : {X : Type 0} (xs : List X) (x : X) → Contains xs x → (k : ℕ) × (slice_get xs k ≡ Some x)
place_of xs x (k, within, is) = (k, slice_get-get_or xs k x within ∙ ap Some is)

pub contains_at : {X : Type 0} (xs : List X) (k : ℕ) (x : X) → slice_get xs k ≡ Some x → Contains xs x
contains_at xs k x there = (k, slice_get_within xs k x there, get_or_from_slice_get xs k x x there)

-- What holds of all elements holds of the element at a place.
pub at_place : {X : Type 0} (P : X → Type 0) (xs : List X) (k : ℕ) (x : X) → All P xs → slice_get xs k ≡ Some x → P x
at_place P xs k x all there = subst P (get_or_from_slice_get xs k x x there) (all k x (slice_get_within xs k x there))

pub at_places : {X : Type 0} (R : X → X → Type 0) (xs : List X) (i j : ℕ) (x y : X) → AllPairs R xs → i < j →
    slice_get xs i ≡ Some x → slice_get xs j ≡ Some y → R x y
at_places R xs i j x y all below here there =
    let h = all i j x below (slice_get_within xs j y there) in
    subst (λ z. R z y) (get_or_from_slice_get xs i x x here)
    (subst (λ z. R (get_or xs i x) z) (get_or_from_slice_get xs j y x there) h)

pub pairs_head : {X : Type 0} (R : X → X → Type 0) (x : X) (xs : List X) → AllPairs R (x ∷ xs) → All (R x) xs
pairs_head R x xs all k d within = all 0 (suc k) d (omega arith) (omega arith)

pub pairs_tail : {X : Type 0} (R : X → X → Type 0) (x : X) (xs : List X) → AllPairs R (x ∷ xs) → AllPairs R xs
pairs_tail R x xs all i j d below within = all (suc i) (suc j) d (omega arith) (omega arith)

-- A pair of places of a list into which an element was inserted, by their positions relative to
-- that element.
module _ {X : Type 0} (R : X → X → Type 0) (xs : List X) (at : ℕ) (y : X) (within : at ≤ length xs)
    (all : AllPairs R xs)
    (below : AllWithin (λ x. R x y) xs 0 at) (above : AllWithin (λ x. R y x) xs at (length xs)) where
  both_below : (i j : ℕ) (d : X) → i < j → j < at → R (get_or (insert xs at y) i d) (get_or (insert xs at y) j d)
  both_below i j d less low =
      let low' : i < at = omega arith in
      rw (get_or-insert_below xs at y d i low' within, get_or-insert_below xs at y d j low within)
      (all i j d less (omega arith))

  first_below : (i : ℕ) (d : X) → i < at → R (get_or (insert xs at y) i d) (get_or (insert xs at y) at d)
  first_below i d low =
      rw (get_or-insert_below xs at y d i low within, get_or-insert_at xs at y d within) (below i d (omega arith) low)

  apart : (i j : ℕ) (d : X) → i < at → at ≤ j → j < length xs →
      R (get_or (insert xs at y) i d) (get_or (insert xs at y) (j + 1) d)
  apart i j d low high last =
      rw (get_or-insert_below xs at y d i low within, get_or-insert_above xs at y d j high within)
      (all i j d (omega arith) last)

  second_above : (j : ℕ) (d : X) → at ≤ j → j < length xs →
      R (get_or (insert xs at y) at d) (get_or (insert xs at y) (j + 1) d)
  second_above j d high last =
      rw (get_or-insert_at xs at y d within, get_or-insert_above xs at y d j high within) (above j d high last)

  both_above : (i j : ℕ) (d : X) → i < j → at ≤ i → j < length xs →
      R (get_or (insert xs at y) (i + 1) d) (get_or (insert xs at y) (j + 1) d)
  both_above i j d less high last =
      let high' : at ≤ j = omega arith in
      rw (get_or-insert_above xs at y d i high within, get_or-insert_above xs at y d j high' within)
      (all i j d less last)

  abbrev Holds : ℕ → ℕ → X → Type 0
  Holds i j d = R (get_or (insert xs at y) i d) (get_or (insert xs at y) j d)

  less_one : (j : ℕ) → at < j → (j' : ℕ) × (j ≡ j' + 1) × (at ≤ j')
  less_one zero h = absurd (omega arith)
  less_one (suc j) h = (j, omega arith, omega arith)

  pub pairs_insert : AllPairs R (insert xs at y)
  pairs_insert i j d less last =
      let long = length-insert xs at y within in
      elim (cases_order j at) [
        | inl here ↦ subst (λ n. Holds i n d) (sym here) (first_below i d (omega arith))
        | inr (inl low) ↦ both_below i j d less low
        | inr (inr high) ↦
            let w = less_one j high in
            subst (λ n. Holds i n d) (sym w.1)
            (elim (cases_order i at) [
              | inl here ↦ subst (λ n. Holds n (w.0 + 1) d) (sym here) (second_above w.0 d w.2 (omega arith))
              | inr (inl low) ↦ apart i w.0 d low w.2 (omega arith)
              | inr (inr over) ↦
                  let v = less_one i over in
                  subst (λ n. Holds n (w.0 + 1) d) (sym v.1) (both_above v.0 w.0 d (omega arith) v.2 (omega arith))
            ])
      ]

-- An element of the list that passes a filter is in the filtered list.
pub contains_filter : {X : Type 0} (p : X → Bool) (xs : List X) (k : ℕ) (x : X) → slice_get xs k ≡ Some x → p x ≡ true →
    (j : ℕ) × (slice_get (filter p xs) j ≡ Some x)
contains_filter p [] k x there passes = cc
contains_filter p (y ∷ ys) zero x there passes =
    let t : p y ≡ true = ap p (same_Some y x there) ∙ passes in
    (0, ap (λ t. slice_get (cond t (y ∷ filter p ys) (filter p ys)) 0) t ∙ there)
contains_filter p (y ∷ ys) (suc k) x there passes = step (p y) (contains_filter p ys k x there passes)
  where
    step : (t : Bool) → ((j : ℕ) × (slice_get (filter p ys) j ≡ Some x)) →
        (j : ℕ) × (slice_get (cond t (y ∷ filter p ys) (filter p ys)) j ≡ Some x)
    step true w = (suc w.0, w.1)
    step false w = w

-- The elements with another number.
module _ {X : Type 0} (number : X → ℕ) (n : ℕ) where
  abbrev pub others : List X → List X
  others xs = filter (λ x. not (number x == n)) xs

  pub others_absent : (xs : List X) → All (λ x. number x ≢ n) xs → others xs ≡ xs
  others_absent [] none = refl
  others_absent (x ∷ xs) none =
      ap (λ t. cond (not t) (x ∷ others xs) (others xs))
      (other_number (number x) n (All-head (λ x. number x ≢ n) x xs none))
      ∙ ap (λ ys. x ∷ ys) (others_absent xs (All-tail (λ x. number x ≢ n) x xs none))

  pub others_present : (xs : List X) (p : ℕ) (x : X) → slice_get xs p ≡ Some x → number x ≡ n →
      AllPairs (λ a b. number a ≢ number b) xs → others xs ≡ remove xs p
  others_present [] p x there is differ = cc
  others_present (y ∷ ys) zero x there is differ =
      let e : number y ≡ n = ap number (same_Some y x there) ∙ is in
      ap (λ t. cond (not t) (y ∷ others ys) (others ys)) (same_number (number y) n e)
      ∙ others_absent ys
      (λ k d within same. pairs_head (λ a b. number a ≢ number b) y ys differ k d within (e ∙ sym same))
  others_present (y ∷ ys) (suc p) x there is differ =
      let apart : number y ≢ n = λ same.
      at_place (λ b. number y ≢ number b) ys p x (pairs_head (λ a b. number a ≢ number b) y ys differ) there
      (same ∙ sym is) in
      ap (λ t. cond (not t) (y ∷ others ys) (others ys)) (other_number (number y) n apart)
      ∙ ap (λ zs. y ∷ zs) (others_present ys p x there is (pairs_tail (λ a b. number a ≢ number b) y ys differ))

  -- Some element of a list has the number, or none has it.
  pub found_or_absent : (xs : List X) →
      ((p : ℕ) × (x : X) × (slice_get xs p ≡ Some x) × (number x ≡ n)) ⊎ All (λ x. number x ≢ n) xs
  found_or_absent [] = inr (λ k d within. absurd (omega arith))
  found_or_absent (x ∷ xs) = step (number x == n) refl (found_or_absent xs)
    where
      step : (t : Bool) → (number x == n) ≡ t
          → ((p : ℕ) × (x : X) × (slice_get xs p ≡ Some x) × (number x ≡ n)) ⊎ All (λ x. number x ≢ n) xs
          → ((p : ℕ) × (y : X) × (slice_get (x ∷ xs) p ≡ Some y) × (number y ≡ n)) ⊎ All (λ x. number x ≢ n) (x ∷ xs)
      step true e rest = inl (0, x, refl, one_number (number x) n e)
      step false e (inl w) = inl (suc w.0, w.1, w.2, w.3)
      step false e (inr none) = inr each
        where
          each : All (λ x. number x ≢ n) (x ∷ xs)
          each zero d within same = never_both (number x == n) (same_number (number x) n same) e
          each (suc k) d within same = none k d (omega arith) same
