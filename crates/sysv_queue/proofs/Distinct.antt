-- Messages with pairwise different numbers, in any order.
use Rattle.std.proofs.Common.{◌≡◌, ◌≢◌, ℕ, ◌<◌, ◌⊎◌, inl, inr, List, ◌++◌, length, get_or, swap, IsPermutation, refl}
use Rattle.std.proofs.Common.{sym, ap, ◌∙◌, arith, length-append}
use Rattle.std.specs.List.{AllPairs}
use Rattle.std.proofs.lemmas.Bool.{cases_eq}
use Rattle.std.proofs.lemmas.List.{get_or_append_left}
use Rattle.std.proofs.lemmas.List.Edits.{Swapped, swapped_from_swap, length-swap}
use Rattle.std.proofs.lemmas.List.Sorted.{IsPermutation-keeps}
use Rattle.sysv_model.specs.Message.{Message}

-- Two places with the same number are the same place.
abbrev AreApart : List Message → Type 0
AreApart ms =
    (i j : ℕ) (d : Message) → i < length ms → j < length ms → (get_or ms i d).number ≡ (get_or ms j d).number → i ≡ j

apart_places : (ms : List Message) → AllPairs (λ (m n : Message). m.number ≢ n.number) ms → AreApart ms
apart_places ms h i j d p q e =
    let not_below : i < j → ⊥ = λ less. h i j d less q e in
    let not_above : j < i → ⊥ = λ less. h j i d less p (sym e) in
    omega arith

-- After the exchange of places a and b, the element at m was at k.
abbrev From : ℕ → ℕ → ℕ → ℕ → Type 0
From a b m k = ((m ≡ a) × (k ≡ b)) ⊎ (((m ≡ b) × (k ≡ a)) ⊎ ((m ≢ a) × (m ≢ b) × (k ≡ m)))

origin : {X : Type 0} (f g : ℕ → X) (a b m : ℕ) → Swapped f g a b → (m ≡ a) ⊎ (m ≢ a) → (m ≡ b) ⊎ (m ≢ b) →
    (k : ℕ) × From a b m k × (g m ≡ f k)
origin f g a b m s (inl e) y = (b, inl (e, refl), ap g e ∙ s.0)
origin f g a b m s (inr n) (inl e) = (a, inr (inl (e, refl)), ap g e ∙ s.1)
origin f g a b m s (inr n) (inr o) = (m, inr (inr (n, o, refl)), s.2 m n o)

apart_swapped : (ms : List Message) (a b : ℕ) → a < length ms → b < length ms → AreApart ms → AreApart (swap ms a b)
apart_swapped ms a b p q h i j d less within e =
    let long = length-swap ms a b in
    let s = swapped_from_swap ms (swap ms a b) a b d p q refl in
    let x = origin _ _ a b i s (cases_eq i a) (cases_eq i b) in
    let y = origin _ _ a b j s (cases_eq j a) (cases_eq j b) in
    let same = h x.0 y.0 d (omega (arith, x.1)) (omega (arith, y.1))
    (ap (λ (m : Message). m.number) (sym x.2) ∙ (e ∙ ap (λ (m : Message). m.number) y.2)) in
    omega (arith, x.1, y.1)

-- Pairwise different numbers are still so in another order.
pub distinct_permuted : (ms ns : List Message) → IsPermutation ms ns →
    AllPairs (λ (m n : Message). m.number ≢ n.number) ms → AllPairs (λ (m n : Message). m.number ≢ n.number) ns
distinct_permuted ms ns moved h =
    let apart = IsPermutation-keeps ms AreApart (apart_places ms h) apart_swapped ns moved in
    λ i j d less within e. let same = apart i j d (omega arith) within e in omega arith

-- The numbers of a prefix of such a list are pairwise different too.
pub distinct_front : (ms ns : List Message) → AllPairs (λ (m n : Message). m.number ≢ n.number) (ms ++ ns) →
    AllPairs (λ (m n : Message). m.number ≢ n.number) ms
distinct_front ms ns h i j d less within e =
    let long = length-append ms ns in
    let at_i = get_or_append_left ms ns d i (omega arith) in
    let at_j = get_or_append_left ms ns d j within in
    h i j d less (omega arith) (ap (λ (m : Message). m.number) at_i ∙ (e ∙ ap (λ (m : Message). m.number) (sym at_j)))
