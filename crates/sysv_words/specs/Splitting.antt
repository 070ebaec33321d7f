-- A text splits at a mark in at most one way, and what follows for its first word and the words
-- after it.
use Rattle.std.proofs.Common.{◌≡◌, ℕ, List, [], ◌∷◌, ◌++◌, refl, sym, ap, subst, ◌∙◌, arith}
use Rattle.std.specs.Prelude.{Contains}
use Rattle.std.proofs.lemmas.List.Elements.{Contains-append_right}
use Rattle.sysv_words.specs.Words.{SplitsAt, Pair, SaysFirst, SaysNoFirst}

pub Contains-first : (m x : ℕ) (xs : List ℕ) → x ≡ m → Contains (x ∷ xs) m
Contains-first m x xs e = (0, omega arith, e)

splits_apart : (m : ℕ) (p r q s : List ℕ) → (Contains p m → ⊥) → (Contains q m → ⊥) → p ++ m ∷ r ≡ q ++ m ∷ s →
    (p ≡ q) × (r ≡ s)
splits_apart m [] r [] s hp hq e = (refl, cc)
splits_apart m [] r (y ∷ q) s hp hq e = let first : y ≡ m = cc in absurd (hq (Contains-first m y q first))
splits_apart m (x ∷ p) r [] s hp hq e = let first : x ≡ m = cc in absurd (hp (Contains-first m x p first))
splits_apart m (x ∷ p) r (y ∷ q) s hp hq e =
    let first : x ≡ y = cc in
    let behind : p ++ m ∷ r ≡ q ++ m ∷ s = cc in
    let tails = splits_apart m p r q s (λ h. hp (Contains-append_right (x ∷ []) p m h))
    (λ h. hq (Contains-append_right (y ∷ []) q m h)) behind in
    let same : x ∷ p ≡ y ∷ q = ap (λ z. z ∷ p) first ∙ ap (λ l. y ∷ l) tails.0 in
    (same, tails.1)

-- A text splits at a mark in at most one way.
pub splits_once : (m : ℕ) (t p r q s : List ℕ) → SplitsAt m t p r → SplitsAt m t q s → (p ≡ q) × (r ≡ s)
splits_once m t p r q s a b = splits_apart m p r q s a.unmarked b.unmarked (sym a.whole ∙ b.whole)

-- A text that splits at a mark contains it.
pub SplitsAt-marked : (m : ℕ) (t p r : List ℕ) → SplitsAt m t p r → Contains t m
SplitsAt-marked m t p r a =
    subst (λ (l : List ℕ). Contains l m) (sym a.whole) (Contains-append_right p (m ∷ r) m (Contains-first m m r refl))

-- ---- a word, and words after it

-- A text without a space has no first word with a value, nor has a text whose first word has none.
pub first-unsplit : {A : Type 0} (Says : List ℕ → A → Type 0) (text : List ℕ) → ¬ Contains text 32 →
    SaysNoFirst Says text
first-unsplit Says text plain = λ word rest value split h. plain (SplitsAt-marked 32 text word rest split)

pub first-no_one : {A : Type 0} (Says : List ℕ → A → Type 0) (text word rest : List ℕ) → SplitsAt 32 text word rest →
    ((value : A) → ¬ Says word value) → SaysNoFirst Says text
first-no_one Says text word rest split none = λ other more value splits h.
    let same = splits_once 32 text other more word rest splits split in
    none value (subst (λ (w : List ℕ). Says w value) same.0 h)

-- A text has no pair of values if its first word has no value, or if the words after it have none.
pub Pair-no_one : {A B : Type 0} (One : List ℕ → A → Type 0) (Other : List ℕ → B → Type 0) (text : List ℕ) →
    SaysNoFirst One text → (both : A × B) → ¬ Pair One Other text both
Pair-no_one One Other text none both h = none h.word h.rest both.0 h.split h.one

pub Pair-no_other : {A B : Type 0} (One : List ℕ → A → Type 0) (Other : List ℕ → B → Type 0) (text : List ℕ) (value : A)
    (rest : List ℕ) → SaysFirst One text value rest →
    ((value : B) → ¬ Other rest value) → (both : A × B) → ¬ Pair One Other text both
Pair-no_other One Other text value rest found none both h =
    let same = splits_once 32 text h.word h.rest found.0 rest h.split found.1 in
    none both.1 (subst (λ (r : List ℕ). Other r both.1) same.1 h.other)
