-- Lists from their end: induction that adds the last element, and the position of an element in
-- such a list.
use Rattle.std.proofs.Common.{◌≡◌, List, [], ◌∷◌, ◌++◌, ◌⊎◌, inl, inr, refl, sym, subst, append_assoc}
use Rattle.std.proofs.lemmas.List.{append-nil}

-- A property that is kept when one more element is added holds of each list that begins with a list
-- that has it.
pub from_front : {X : Type 0} (P : List X → Type 0) → ((xs : List X) (x : X) → P xs → P (xs ++ x ∷ [])) →
    (front back : List X) → P front → P (front ++ back)
from_front P step front [] p = subst P (sym (append-nil front)) p
from_front P step front (x ∷ back) p =
    subst P (append_assoc front (x ∷ []) back) (from_front P step (front ++ x ∷ []) back (step front x p))

-- A property of the empty list that is kept when one more element is added holds of every list.
pub from_end : {X : Type 0} (P : List X → Type 0) → P [] → ((xs : List X) (x : X) → P xs → P (xs ++ x ∷ [])) →
    (xs : List X) → P xs
from_end P empty step xs = from_front P step [] xs empty

no_room : {X : Type 0} (xs ys : List X) (x : X) → [] ≡ xs ++ x ∷ ys → ⊥
no_room [] ys x e = cc
no_room (y ∷ xs) ys x e = cc

-- An element of xs with x added at its end is that x or is in xs.
pub at_end : {X : Type 0} (xs before after : List X) (x e : X) → xs ++ x ∷ [] ≡ before ++ e ∷ after →
    ((after ≡ []) × (before ≡ xs) × (e ≡ x)) ⊎ ((rest : List X) × (after ≡ rest ++ x ∷ []) × (xs ≡ before ++ e ∷ rest))
at_end [] [] after x e h = inl (cc, refl, cc)
at_end [] (b ∷ before) after x e h = let tail : [] ≡ before ++ e ∷ after = cc in absurd (no_room before after e tail)
at_end (y ∷ xs) [] after x e h = inr (xs, cc, cc)
at_end (y ∷ xs) (b ∷ before) after x e h =
    let same : y ≡ b = cc in
    let tail : xs ++ x ∷ [] ≡ before ++ e ∷ after = cc in
    elim (at_end xs before after x e tail) [
      | inl w ↦ let front : before ≡ xs = w.1 in inl (w.0, cc, w.2)
      | inr w ↦ let front : xs ≡ before ++ e ∷ w.0 = w.2 in inr (w.0, w.1, cc)
    ]
