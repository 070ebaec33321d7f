-- Questions about numbers and texts that are decided: which number is greater, whether two texts
-- are equal, whether a text begins with another one, and where it splits.
use Rattle.std.proofs.Common.{◌≡◌, ◌≤◌, ◌<◌, ◌+◌, ◌⊎◌, ℕ, zero, suc, inl, inr, List, [], ◌∷◌, ◌++◌, length}
use Rattle.std.proofs.Common.{length-append, refl, sym, ap, subst, ◌∙◌, arith}
use Rattle.std.specs.Prelude.{Contains}
use Rattle.std.proofs.lemmas.Bool.{cases_eq}
use Rattle.std.proofs.lemmas.List.Elements.{Contains-append_cases}
use Rattle.sysv_lists.specs.Prefix.{IsPrefixOf}
use Rattle.sysv_lists.proofs.Orders.{at_most}
use Rattle.sysv_words.specs.Words.{SplitsAt}

-- The statement holds, or it does not.
abbrev pub Decided : Type 0 → Type 0
Decided P = P ⊎ ¬ P

-- A statement is decided if it is equivalent to one that is decided.
pub decided_as : {P Q : Type 0} → (P → Q) → (Q → P) → Decided P → Decided Q
decided_as to from (inl p) = inl (to p)
decided_as to from (inr not) = inr (λ q. not (from q))

-- If several statements are decided, so is their conjunction (of two and of four), and the
-- disjunction of two.
pub two : {P Q : Type 0} → Decided P → Decided Q → Decided (P × Q)
two (inl p) (inl q) = inl (p, q)
two (inl p) (inr not) = inr (λ h. not h.1)
two (inr not) q = inr (λ h. not h.0)

pub four : {P Q R S : Type 0} → Decided P → Decided Q → Decided R → Decided S → Decided (P × Q × R × S)
four (inl p) (inl q) (inl r) (inl s) = inl (p, q, r, s)
four (inl p) (inl q) (inl r) (inr not) = inr (λ h. not h.3)
four (inl p) (inl q) (inr not) s = inr (λ h. not h.2)
four (inl p) (inr not) r s = inr (λ h. not h.1)
four (inr not) q r s = inr (λ h. not h.0)

pub either : {P Q : Type 0} → Decided P → Decided Q → Decided (P ⊎ Q)
either (inl p) q = inl (inl p)
either (inr none) (inl q) = inl (inr q)
either (inr none) (inr not) = inr (λ h. elim h [ inl p ↦ none p | inr q ↦ not q ])

pub not_both : (a b : ℕ) → a ≤ b → b < a → ⊥
not_both a b h k = omega arith

pub at_most_or_not : (a b : ℕ) → Decided (a ≤ b)
at_most_or_not a b = elim (at_most a b) [ inl h ↦ inl h | inr over ↦ inr (λ h. not_both a b h over) ]

pub below_or_not : (a b : ℕ) → Decided (a < b)
below_or_not a b = elim (at_most b a) [ inl over ↦ inr (λ h. not_both b a over h) | inr below ↦ inl below ]

-- Two texts are equal, or they are not.
pub same_or_not : (a b : List ℕ) → Decided (a ≡ b)
same_or_not [] [] = inl refl
same_or_not [] (y ∷ ys) = inr (λ e. cc)
same_or_not (x ∷ xs) [] = inr (λ e. cc)
same_or_not (x ∷ xs) (y ∷ ys) = elim (cases_eq x y) [
  | inl first ↦ elim (same_or_not xs ys) [ inl rest ↦ inl (cc) | inr other ↦ inr (λ e. other (cc)) ]
  | inr other ↦ inr (λ e. other (cc))
]

begun_behind : (x y : ℕ) (front text : List ℕ) → IsPrefixOf (x ∷ front) (y ∷ text) → (y ≡ x) × IsPrefixOf front text
begun_behind x y front text (rest, e) = (cc, (rest, cc))

-- A text begins with `front`, or it does not.
pub begun_or_not : (front text : List ℕ) → Decided (IsPrefixOf front text)
begun_or_not [] text = inl (text, refl)
begun_or_not (x ∷ front) [] = inr (λ h. let e = h.1 in cc)
begun_or_not (x ∷ front) (y ∷ text) = elim (cases_eq y x) [
  | inl first ↦ elim (begun_or_not front text) [
    | inl b ↦ let e = b.1 in inl (b.0, cc)
    | inr not ↦ inr (λ h. not (begun_behind x y front text h).1)
  ]
  | inr other ↦ inr (λ h. other (begun_behind x y front text h).0)
]

-- At most one text follows `front` in a text.
rest_same : (front a b : List ℕ) → front ++ a ≡ front ++ b → a ≡ b
rest_same [] a b e = e
rest_same (x ∷ front) a b e = let behind : front ++ a ≡ front ++ b = cc in rest_same front a b behind

-- A text begins with `front` and P holds of the rest, or this is not so.
pub behind_or_not : (front : List ℕ) (P : List ℕ → Type 0) → ((rest : List ℕ) → Decided (P rest)) → (text : List ℕ) →
    Decided ((rest : List ℕ) × (text ≡ front ++ rest) × P rest)
behind_or_not front P decided text = elim (begun_or_not front text) [
  | inl b ↦ decided_as (λ p. (b.0, b.1, p)) (λ h. subst P (rest_same front h.0 b.0 (sym h.1 ∙ b.1)) h.2) (decided b.0)
  | inr none ↦ inr (λ h. none (h.0, h.1))
]

Contains-none : (mark : ℕ) → ¬ Contains [] mark
Contains-none mark (k, inside, e) = omega (arith, inside)

only_first : (x mark : ℕ) → Contains (x ∷ []) mark → x ≡ mark
only_first x mark (zero, inside, e) = e
only_first x mark (suc k, inside, e) = absurd (omega (arith, inside))

Contains-more : (x mark : ℕ) (xs : List ℕ) → ¬ (x ≡ mark) → ¬ Contains xs mark → ¬ Contains (x ∷ xs) mark
Contains-more x mark xs other none h = elim (Contains-append_cases (x ∷ []) xs mark h) [
  | inl first ↦ other (only_first x mark first)
  | inr behind ↦ none behind
]

-- The text splits at the mark.
abbrev pub Splits : ℕ → List ℕ → Type 0
Splits mark text = (part : List ℕ) × (rest : List ℕ) × SplitsAt mark text part rest

-- A text splits at a mark, or does not contain it.
pub splits_or_not : (mark : ℕ) (text : List ℕ) → Splits mark text ⊎ ¬ Contains text mark
splits_or_not mark [] = inr (Contains-none mark)
splits_or_not mark (x ∷ xs) = elim (cases_eq x mark) [
  | inl here ↦ inl ([], xs, record { whole = ap (λ y. y ∷ xs) here; unmarked = Contains-none mark })
  | inr other ↦ elim (splits_or_not mark xs) [
    | inl s ↦ inl (
      x ∷ s.0,
      s.1,
      record { whole = ap (λ l. x ∷ l) s.2.whole; unmarked = Contains-more x mark s.0 other s.2.unmarked },
    )
    | inr none ↦ inr (Contains-more x mark xs other none)
  ]
]

-- The rest after the mark is shorter than the text.
pub splits_shorter : (mark : ℕ) (text part rest : List ℕ) → SplitsAt mark text part rest → length rest < length text
splits_shorter mark text part rest s =
    let whole : length text ≡ length part + length (mark ∷ rest) =
    ap length s.whole ∙ length-append part (mark ∷ rest) in
    let more : length (mark ∷ rest) ≡ suc (length rest) = refl in
    omega (arith, whole, more)
