-- A word is a numeral of a number in its range, or it is not.
use Rattle.std.proofs.Common.{◌≡◌, ◌≤◌, ◌≤ℤ◌, ◌^◌, ℕ, ℤ, pos, negsuc, inl, inr, List, [], ◌∷◌, length, refl, sym, subst}
use Rattle.std.proofs.Common.{le→leb, leb→le}
use Rattle.std.specs.Char.{digit_value}
use Rattle.std.specs.Str.Parse.{AllDigits, IsNumeral}
use Rattle.std.specs.Int.RustNames.{FitsSigned}
use mir.Syntax.{Width}
use mir.Val.{hbits}
use lib.Signed.{mag}
use Rattle.sysv_words.specs.Words.{IsNumber, digits_in, number_in}
use Rattle.sysv_words.specs.Words.{IsNumeralOf}
use Rattle.sysv_words.specs.Deciding.{Decided, decided_as, two, at_most_or_not, below_or_not}

-- All bytes are digits, or one of them is not.
pub digits_or_not : (radix : ℕ) (ds : List ℕ) → Decided (AllDigits radix ds)
digits_or_not radix [] = inl tt
digits_or_not radix (d ∷ ds) = two (below_or_not (digit_value d) radix) (digits_or_not radix ds)

numeral_or_not : (ds : List ℕ) → Decided (IsNumeral 10 ds)
numeral_or_not ds = two (below_or_not 0 (length ds)) (digits_or_not 10 ds)

-- The word is a numeral, with or without a minus before it, or it is not.
number_or_not : (word : List ℕ) → Decided (IsNumber word)
number_or_not word = numeral_or_not (digits_in word)

-- A number fits a width, or it does not.
fits_or_not : (w : Width) (z : ℤ) → Decided (FitsSigned w z)
fits_or_not w z =
    decided_as (λ below. record { sfits = below }) (λ fits. fits.sfits) (below_or_not (mag z) (2 ^ hbits w))

-- The word is a numeral whose number fits this width, or it is not.
pub signed_or_not : (w : Width) (word : List ℕ) → Decided (IsNumber word × FitsSigned w (number_in word))
signed_or_not w word = two (number_or_not word) (fits_or_not w (number_in word))

-- The number is between these two, or one of them.
abbrev pub IsBetween : ℕ → ℕ → ℤ → Type 0
IsBetween least most z = (pos least ≤ℤ z) × (z ≤ℤ pos most)

le_or_not : (a b : ℕ) → Decided (pos a ≤ℤ pos b)
le_or_not a b = decided_as (λ h. record { le = le→leb a b h }) (λ h. leb→le a b h.le) (at_most_or_not a b)

-- A number is between two, or it is not.
between_or_not : (least most : ℕ) (z : ℤ) → Decided (IsBetween least most z)
between_or_not least most (pos n) = two (le_or_not least n) (le_or_not n most)
between_or_not least most (negsuc n) = inr (λ h. h.0.le)

-- The word is a numeral of a number between these two.
abbrev pub IsNumberBetween : ℕ → ℕ → List ℕ → Type 0
IsNumberBetween least most word = IsNumber word × IsBetween least most (number_in word)

-- A word is such a numeral, or it is not.
pub number_between_or_not : (least most : ℕ) (word : List ℕ) → Decided (IsNumberBetween least most word)
number_between_or_not least most word = two (number_or_not word) (between_or_not least most (number_in word))

natural_between : (least most : ℕ) (z : ℤ) → IsBetween least most z → (n : ℕ) × (z ≡ pos n) × (least ≤ n) × (n ≤ most)
natural_between least most (pos n) h = (n, refl, leb→le least n h.0.le, leb→le n most h.1.le)
natural_between least most (negsuc n) h = absurd h.0.le

-- The number of such a numeral is a natural number.
pub number_between : (least most : ℕ) (word : List ℕ) → IsNumberBetween least most word →
    (n : ℕ) × IsNumeralOf word (pos n) × (least ≤ n) × (n ≤ most)
number_between least most word h =
    let found = natural_between least most (number_in word) h.1 in
    (found.0, (h.0, found.1), found.2, found.3)

-- A numeral of a natural number between these two is such a numeral.
pub numeral_between : (least most : ℕ) (word : List ℕ) (n : ℕ) → IsNumeralOf word (pos n) → least ≤ n → n ≤ most →
    IsNumberBetween least most word
numeral_between least most word n h low high =
    let between : IsBetween least most (pos n) =
    (record { le = le→leb least n low }, record { le = le→leb n most high }) in
    (h.0, subst (IsBetween least most) (sym h.1) between)
