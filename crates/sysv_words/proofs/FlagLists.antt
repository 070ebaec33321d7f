-- A list of flags has at most one value.
use Rattle.std.proofs.Common.{◌≡◌, ℕ, ◌<◌, List, [], ◌∷◌, ◌++◌, refl, sym, ap, subst, ◌∙◌, arith, inl, inr, Bool, true}
use Rattle.std.proofs.Common.{false, cond, nat_eq, bit_or, zero, suc, get_or, drop}
use Rattle.std.specs.Prelude.{Contains, codes}
use Rattle.std.specs.Char.{digit_value}
use Rattle.std.specs.Str.Parse.{AllDigits, digits_value}
use Rattle.std.proofs.lemmas.List.Elements.{Contains-append_right, Contains-append_cases}
use Rattle.std.proofs.lemmas.Bool.Decides.{nat_tests}
use Rattle.sysv_model.specs.declared.flags.Flags.{Flags}
use Rattle.sysv_words.specs.Words.{SplitsAt}
use Rattle.sysv_words.specs.FlagNames.{NamesFlag, AddsFlags, ListsFlags, IsFlags, IsFlagList, One, More}
use Rattle.sysv_words.specs.Splitting.{Contains-first, splits_once, SplitsAt-marked}

-- The bits of a name, if it has any.
abbrev name_bits : List ℕ → ℕ
name_bits name =
    cond (nat_eq (get_or name 0 0) 48) (digits_value 8 (drop 1 name))
    (cond (nat_eq (get_or name 0 0) 67) 512 (cond (nat_eq (get_or name 3 0) 76) 1024
    (cond (nat_eq (get_or name 2 0) 87) 2048 (cond (nat_eq (get_or name 2 0) 69) 4096 8192))))

NamesFlag-bits : (name : List ℕ) (bits : ℕ) → NamesFlag name bits → bits ≡ name_bits name
NamesFlag-bits name bits (inl (digits, whole, mode, is)) = is ∙ sym (ap name_bits whole)
NamesFlag-bits name bits (inr (inl h)) = h.1 ∙ sym (ap name_bits h.0)
NamesFlag-bits name bits (inr (inr (inl h))) = h.1 ∙ sym (ap name_bits h.0)
NamesFlag-bits name bits (inr (inr (inr (inl h)))) = h.1 ∙ sym (ap name_bits h.0)
NamesFlag-bits name bits (inr (inr (inr (inr (inl h))))) = h.1 ∙ sym (ap name_bits h.0)
NamesFlag-bits name bits (inr (inr (inr (inr (inr h))))) = h.1 ∙ sym (ap name_bits h.0)

-- A name has at most one value.
pub NamesFlag-once : (name : List ℕ) (a b : ℕ) → NamesFlag name a → NamesFlag name b → a ≡ b
NamesFlag-once name a b h k = NamesFlag-bits name a h ∙ sym (NamesFlag-bits name b k)

-- One of the bytes is a `+`.
abbrev has_plus : List ℕ → Bool
has_plus [] = false
has_plus (x ∷ xs) = cond (nat_eq x 43) true (has_plus xs)

plain_digit : (d : ℕ) → digit_value d < 8 → nat_eq d 43 ≡ false
plain_digit d h = grind (arith, nat_tests)

has_plus-digits : (ds : List ℕ) → AllDigits 8 ds → has_plus ds ≡ false
has_plus-digits [] h = refl
has_plus-digits (d ∷ ds) h = ap (λ b. cond b true (has_plus ds)) (plain_digit d h.0) ∙ has_plus-digits ds h.1

NamesFlag-plain : (name : List ℕ) (bits : ℕ) → NamesFlag name bits → has_plus name ≡ false
NamesFlag-plain name bits (inl (digits, whole, mode, is)) = ap has_plus whole ∙ has_plus-digits digits mode.1
NamesFlag-plain name bits (inr (inl h)) = ap has_plus h.0
NamesFlag-plain name bits (inr (inr (inl h))) = ap has_plus h.0
NamesFlag-plain name bits (inr (inr (inr (inl h)))) = ap has_plus h.0
NamesFlag-plain name bits (inr (inr (inr (inr (inl h))))) = ap has_plus h.0
NamesFlag-plain name bits (inr (inr (inr (inr (inr h))))) = ap has_plus h.0

only_first : (x m : ℕ) → Contains (x ∷ []) m → x ≡ m
only_first x m (zero, h, e) = e
only_first x m (suc k, h, e) = absurd (omega arith)

first_plain : (x : ℕ) (rest : Bool) → cond (nat_eq x 43) true rest ≡ false → x ≡ 43 → ⊥
first_plain x rest e h = grind (arith, nat_tests)

rest_plain : (b rest : Bool) → cond b true rest ≡ false → rest ≡ false
rest_plain true rest e = absurd cc
rest_plain false rest e = e

has_plus-none : (xs : List ℕ) → has_plus xs ≡ false → Contains xs 43 → ⊥
has_plus-none [] e (k, h, _) = omega arith
has_plus-none (x ∷ xs) e c = elim (Contains-append_cases (x ∷ []) xs 43 c) [
  | inl h ↦ first_plain x (has_plus xs) e (only_first x 43 h)
  | inr h ↦ has_plus-none xs (rest_plain (nat_eq x 43) (has_plus xs) e) h
]

-- A name contains no `+`.
pub NamesFlag-unmarked : (name : List ℕ) (bits : ℕ) → NamesFlag name bits → Contains name 43 → ⊥
NamesFlag-unmarked name bits h = has_plus-none name (NamesFlag-plain name bits h)

-- A list that splits begins with a name and continues with a list.
pub AddsFlags-split : (before : ℕ) (list : List ℕ) (all : ℕ) (p r : List ℕ) → SplitsAt 43 list p r →
    AddsFlags before list all → (bits : ℕ) × NamesFlag p bits × AddsFlags (bit_or before bits) r all
AddsFlags-split before list all p r s (One _ name bits h) =
    absurd (NamesFlag-unmarked name bits h (SplitsAt-marked 43 name p r s))
AddsFlags-split before list all p r s (More _ name rest bits _ h more) =
    let e = splits_once 43 (name ++ 43 ∷ rest) name rest p r
    (record { whole = refl; unmarked = NamesFlag-unmarked name bits h }) s in (
      bits,
      subst (λ (n : List ℕ). NamesFlag n bits) e.0 h,
      subst (λ (l : List ℕ). AddsFlags (bit_or before bits) l all) e.1 more,
    )

-- A list that does not split is one name.
pub AddsFlags-last : (before : ℕ) (list : List ℕ) (all : ℕ) → (Contains list 43 → ⊥) → AddsFlags before list all →
    (bits : ℕ) × NamesFlag list bits
AddsFlags-last before list all s (One _ name bits h) = (bits, h)
AddsFlags-last before list all s (More _ name rest bits _ h more) =
    absurd (s (Contains-append_right name (43 ∷ rest) 43 (Contains-first 43 43 rest refl)))

-- A list without `+` is one name, and has its bits combined with those before it.
adds_last : (before : ℕ) (list : List ℕ) (all : ℕ) → (Contains list 43 → ⊥) → AddsFlags before list all →
    (bits : ℕ) × NamesFlag list bits × (all ≡ bit_or before bits)
adds_last before list all s (One _ name bits h) = (bits, h, refl)
adds_last before list all s (More _ name rest bits _ h more) =
    absurd (s (Contains-append_right name (43 ∷ rest) 43 (0, omega arith, refl)))

adds_once : (before : ℕ) (list : List ℕ) (a b : ℕ) → AddsFlags before list a → AddsFlags before list b → a ≡ b
adds_once before list a b (One _ name bits h) k =
    let last = adds_last before name b (NamesFlag-unmarked name bits h) k in
    ap (bit_or before) (NamesFlag-once name bits last.0 h last.1) ∙ sym last.2
adds_once before list a b (More _ name rest bits _ h more) k =
    let behind = AddsFlags-split before (name ++ 43 ∷ rest) b name rest
    (record { whole = refl; unmarked = NamesFlag-unmarked name bits h }) k in
    let same : behind.0 ≡ bits = NamesFlag-once name behind.0 bits behind.1 h in
    adds_once (bit_or before bits) rest a b more (subst (λ x. AddsFlags (bit_or before x) rest b) same behind.2)

dash_unmarked : Contains (codes "-") 43 → ⊥
dash_unmarked (zero, h, e) = omega (arith, e)
dash_unmarked (suc k, h, e) = omega arith

NamesFlag-dash : (bits : ℕ) → NamesFlag (codes "-") bits → ⊥
NamesFlag-dash bits (inl (digits, whole, mode, is)) =
    let e : 45 ≡ 48 = ap (λ (l : List ℕ). get_or l 0 0) whole in omega (arith, e)
NamesFlag-dash bits (inr (inl h)) = let e : 45 ≡ 67 = ap (λ (l : List ℕ). get_or l 0 0) h.0 in omega (arith, e)
NamesFlag-dash bits (inr (inr (inl h))) = let e : 45 ≡ 69 = ap (λ (l : List ℕ). get_or l 0 0) h.0 in omega (arith, e)
NamesFlag-dash bits (inr (inr (inr (inl h)))) =
    let e : 45 ≡ 78 = ap (λ (l : List ℕ). get_or l 0 0) h.0 in omega (arith, e)
NamesFlag-dash bits (inr (inr (inr (inr (inl h))))) =
    let e : 45 ≡ 78 = ap (λ (l : List ℕ). get_or l 0 0) h.0 in omega (arith, e)
NamesFlag-dash bits (inr (inr (inr (inr (inr h))))) =
    let e : 45 ≡ 69 = ap (λ (l : List ℕ). get_or l 0 0) h.0 in omega (arith, e)

dash_alone : (word : List ℕ) (bits : ℕ) → word ≡ codes "-" → ListsFlags word bits → ⊥
dash_alone word bits e h =
    let last = adds_last 0 (codes "-") bits dash_unmarked (subst (λ l. AddsFlags 0 l bits) e h) in
    NamesFlag-dash last.0 last.1

flags_once : (word : List ℕ) (a b : ℕ) → IsFlags word a → IsFlags word b → a ≡ b
flags_once word a b (inl h) (inl k) = h.1 ∙ sym k.1
flags_once word a b (inl h) (inr k) = absurd (dash_alone word b h.0 k)
flags_once word a b (inr h) (inl k) = absurd (dash_alone word a k.0 h)
flags_once word a b (inr h) (inr k) = adds_once 0 word a b h k

abbrev flags_made : ℕ → Flags
flags_made bits = record { 0 = bits }

-- A word means at most one set of flags.
pub flag_list_once : (word : List ℕ) (a b : Flags) → IsFlagList word a → IsFlagList word b → a ≡ b
flag_list_once word a b h k = ap flags_made (flags_once word a.0 b.0 h k)
