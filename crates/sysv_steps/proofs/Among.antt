-- What a test finds in a list of operations after one more operation.
use Rattle.std.proofs.Common.{◌≡◌, ℕ, ◌≤◌, ◌||◌, Bool, true, false, List, [], ◌∷◌, ◌++◌, cond, refl, ap, ◌∙◌, arith}
use Rattle.std.specs.List.{list_any, count_by, flat_map}
use Rattle.std.proofs.lemmas.List.{append-nil}
use Rattle.std.proofs.lemmas.Grind.{flat_map-append}
use Rattle.std.proofs.lemmas.List.Folds.{list_any-append}
use Rattle.std.proofs.lemmas.List.Sums.{sum_by-append}
use Rattle.sysv_model.specs.Turn.{Op}

-- A test does not both pass and fail.
pub apart : {A : Type 0} (b : Bool) → b ≡ true → b ≡ false → A
apart b t f = absurd cc

pub or_false : (b : Bool) → (b || false) ≡ b
or_false true = refl
or_false false = refl

or_true : (b : Bool) → (b || true) ≡ true
or_true true = refl
or_true false = refl

pub neither : (b c : Bool) → (b || c) ≡ false → (b ≡ false) × (c ≡ false)
neither true c e = absurd cc
neither false c e = (refl, e)

-- An operation that fails the test changes nothing.
pub kept : (p : Op → Bool) (ops : List Op) (op : Op) → p op ≡ false →
    list_any p (ops ++ op ∷ []) ≡ list_any p ops
kept p ops op e = list_any-append p ops (op ∷ [])
    ∙ (ap (λ (b : Bool). list_any p ops || (b || false)) e ∙ or_false (list_any p ops))

-- An operation that passes the test is found.
pub found : (p : Op → Bool) (ops : List Op) (op : Op) → p op ≡ true → list_any p (ops ++ op ∷ []) ≡ true
found p ops op e = list_any-append p ops (op ∷ [])
    ∙ (ap (λ (b : Bool). list_any p ops || (b || false)) e ∙ or_true (list_any p ops))

none_yet : (p : Op → Bool) (ops : List Op) → list_any p ops ≡ false → count_by p ops ≡ 0
none_yet p [] e = refl
none_yet p (d ∷ ops) e =
    let both = neither (p d) (list_any p ops) e in
    let less = none_yet p ops both.1 in
    let no : cond {A = ℕ} (p d) 1 0 ≡ 0 = ap (λ (b : Bool). cond {A = ℕ} b 1 0) both.0 in
    omega (arith, less, no, sum_by-append (λ (x : Op). cond {A = ℕ} (p x) 1 0) (d ∷ []) ops)

at_most_one : (b : Bool) → cond {A = ℕ} b 1 0 ≤ 1
at_most_one true = omega arith
at_most_one false = omega arith

-- If no operation passed the test so far, at most one does afterwards.
pub once_at_most : (p : Op → Bool) (ops : List Op) (op : Op) → list_any p ops ≡ false →
    count_by p (ops ++ op ∷ []) ≤ 1
once_at_most p ops op e =
    omega (
      arith,
      sum_by-append (λ (d : Op). cond {A = ℕ} (p d) 1 0) ops (op ∷ []),
      none_yet p ops e,
      at_most_one (p op),
    )

-- An operation that fails the test adds nothing to the number of those that pass it.
pub once_still : (p : Op → Bool) (ops : List Op) (op : Op) → p op ≡ false → count_by p ops ≤ 1 →
    count_by p (ops ++ op ∷ []) ≤ 1
once_still p ops op e least =
    let none : cond {A = ℕ} (p op) 1 0 ≡ 0 = ap (λ (b : Bool). cond {A = ℕ} b 1 0) e in
    omega (arith, sum_by-append (λ (d : Op). cond {A = ℕ} (p d) 1 0) ops (op ∷ []), none, least)

-- An operation without a result of this kind adds nothing to the results of all operations.
pub gave : {A : Type 0} (f : Op → List A) (ops : List Op) (op : Op) → f op ≡ [] →
    flat_map f (ops ++ op ∷ []) ≡ flat_map f ops
gave f ops op e =
    flat_map-append f ops (op ∷ []) ∙ (ap (λ l. flat_map f ops ++ (l ++ [])) e ∙ append-nil (flat_map f ops))

or_first : (b c : Bool) → b ≡ true → (b || c) ≡ true
or_first true c e = refl
or_first false c e = absurd cc

or_last : (b c : Bool) → c ≡ true → (b || c) ≡ true
or_last true c e = refl
or_last false c e = e

-- An operation that passes the test is found anywhere in the list.
pub amid : (p : Op → Bool) (front after : List Op) (op : Op) → p op ≡ true →
    list_any p (front ++ op ∷ after) ≡ true
amid p [] after op e = or_first (p op) (list_any p after) e
amid p (d ∷ front) after op e = or_last (p d) (list_any p (front ++ op ∷ after)) (amid p front after op e)
