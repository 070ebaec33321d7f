-- A closed bank returns as many slots as there are gates.
use Rattle.std.proofs.Common.{◌≡◌, suc, List, [], ◌∷◌, length, refl, ap}
use Rattle.sysv_bank.specs.Banks.{Each2}

-- Two lists with a fact of each pair of elements have the same length.
pub as_long : {A B : Type 0} (fact : A → B → Type 0) (xs : List A) (ys : List B) → Each2 fact xs ys →
    length xs ≡ length ys
as_long fact [] [] e = refl
as_long fact [] (y ∷ ys) e = absurd e
as_long fact (x ∷ xs) [] e = absurd e
as_long fact (x ∷ xs) (y ∷ ys) e = ap suc (as_long fact xs ys e.1)
