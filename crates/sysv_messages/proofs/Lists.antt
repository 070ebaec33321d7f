-- Lists to which a function is applied, and lists read at a place.
use Rattle.std.proofs.Common.{◌≡◌, ◌≢◌, ℕ, zero, suc, ◌<◌, ◌==◌, Bool, true, not, List, [], ◌∷◌, Option, None, Some}
use Rattle.std.proofs.Common.{IsSome, length, map, get_or, refl, sym, ap, subst, ◌∙◌, inl, inr}
use Rattle.std.specs.List.{All, remove, slice_get, slice_index_or}
use Rattle.std.proofs.lemmas.Bool.Decides.{Decides-eqb}
use Rattle.std.proofs.lemmas.Bool.{cases_lt}
use Rattle.std.proofs.lemmas.List.{get_or_past}
use Rattle.std.proofs.lemmas.List.Elements.{All-head, All-tail}
use Rattle.std.proofs.lemmas.Option.{slice_get_within, get_or_from_slice_get}

-- Two functions that agree on all elements of a list.
pub map_same : {X Y : Type 0} (f g : X → Y) (xs : List X) → All (λ x. f x ≡ g x) xs → map f xs ≡ map g xs
map_same f g [] all = refl
map_same f g (x ∷ xs) all =
    ap (λ y. y ∷ map f xs) (All-head (λ x. f x ≡ g x) x xs all)
    ∙ ap (λ ys. g x ∷ ys) (map_same f g xs (All-tail (λ x. f x ≡ g x) x xs all))

pub map_remove : {X Y : Type 0} (f : X → Y) (xs : List X) (i : ℕ) → map f (remove xs i) ≡ remove (map f xs) i
map_remove f [] zero = refl
map_remove f [] (suc i) = refl
map_remove f (x ∷ xs) zero = refl
map_remove f (x ∷ xs) (suc i) = ap (λ ys. f x ∷ ys) (map_remove f xs i)

-- What holds of all elements holds of the element at a place.
pub at_place : {X : Type 0} (P : X → Type 0) (xs : List X) (k : ℕ) (x : X) → All P xs → slice_get xs k ≡ Some x → P x
at_place P xs k x all there = subst P (get_or_from_slice_get xs k x x there) (all k x (slice_get_within xs k x there))

pub all_both : {X : Type 0} (P Q R : X → Type 0) (xs : List X) → ((x : X) → P x → Q x → R x) → All P xs → All Q xs →
    All R xs
all_both P Q R xs f p q k d within = f (get_or xs k d) (p k d within) (q k d within)

pub some_is : {X : Type 0} (o : Option X) (x : X) → o ≡ Some x → IsSome o
some_is o x e = subst IsSome (sym e) refl

pub never_none : {X : Type 0} (o : Option X) (x : X) → o ≡ Some x → o ≡ None → ⊥
never_none o x e f = let bad : Some x ≡ None = sym e ∙ f in absurd cc

pub no_some : {X : Type 0} (o : Option X) → o ≡ None → IsSome o → ⊥
no_some {X} o none some = let bad : IsSome {T = X} None = subst IsSome none some in absurd cc

-- Only a place of the list has an element.
pub place_within : {X : Type 0} (xs : List (Option X)) (place : ℕ) (x : X) → slice_index_or xs place None ≡ Some x →
    place < length xs
place_within xs place x there = elim (cases_lt place (length xs)) [
  | inl within ↦ within
  | inr past ↦ absurd (never_none (slice_index_or xs place None) x there (get_or_past xs place None past))
]

not_false : (t : Bool) → not t ≡ true → t ≡ true → ⊥
not_false t e f = let bad : not true ≡ true = sym (ap not f) ∙ e in absurd cc

pub other_number : (a b : ℕ) → not (a == b) ≡ true → a ≢ b
other_number a b e same = not_false (a == b) e ((Decides-eqb a b).1 same)
