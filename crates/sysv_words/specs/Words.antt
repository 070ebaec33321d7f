-- The words of a line of a script, separated by one space, and the numerals among them (this
-- project's script language). A numeral is decimal, with or without a minus before it, and its
-- number must be in the range of the word's kind.
use Rattle.std.specs.Prelude.{◌≡◌, ◌==◌, ◌≤◌, ℕ, ℤ, pos, neg_ℤ, Bool, List, ◌∷◌, ◌++◌, drop, slice_index, Contains}
use Rattle.std.specs.Prelude.{if◌then◌else◌}
use Rattle.std.specs.Int.{w32, w64}
use Rattle.std.specs.Int.RustNames.{FitsSigned}
use Rattle.std.specs.Str.Parse.{IsNumeral, digits_value}

-- The text is a part without the mark, the mark, and the rest.
pub record SplitsAt (mark : ℕ) (text part rest : List ℕ) : Type 0 where
  pub whole : text ≡ part ++ mark ∷ rest
  pub unmarked : Contains part mark → ⊥

-- The text is a word with one value, a space, and a rest with another value.
pub record Pair {A B : Type 0} (SaysOne : List ℕ → A → Type 0) (SaysOther : List ℕ → B → Type 0) (text : List ℕ)
    (both : A × B) : Type 0 where
  pub word : List ℕ
  pub rest : List ℕ
  pub split : SplitsAt 32 text word rest
  pub one : SaysOne word both.0
  pub other : SaysOther rest both.1

-- The first word has this value, and this rest follows its space.
abbrev pub SaysFirst : {A : Type 0} → (List ℕ → A → Type 0) → List ℕ → A → List ℕ → Type 0
SaysFirst Says text value rest = (word : List ℕ) × SplitsAt 32 text word rest × Says word value

-- No first word has a value.
abbrev pub SaysNoFirst : {A : Type 0} → (List ℕ → A → Type 0) → List ℕ → Type 0
SaysNoFirst {A} Says text = (word rest : List ℕ) (value : A) → SplitsAt 32 text word rest → ¬ Says word value

-- The text is this word, a space, and a rest with this value.
pub record After {A : Type 0} (name : List ℕ) (SaysRest : List ℕ → A → Type 0) (text : List ℕ)
    (value : A) : Type 0 where
  pub rest : List ℕ
  pub split : SplitsAt 32 text name rest
  pub says : SaysRest rest value

-- The word begins with a minus.
abbrev pub is_negative : List ℕ → Bool
is_negative word = slice_index word 0 == 45

-- The digits, without a minus before them.
abbrev pub digits_in : List ℕ → List ℕ
digits_in word = if is_negative word then drop 1 word else word

-- At least one decimal digit, with or without a minus before it.
abbrev pub IsNumber : List ℕ → Type 0
IsNumber word = IsNumeral 10 (digits_in word)

-- The number of a numeral.
abbrev pub number_in : List ℕ → ℤ
number_in word =
    if is_negative word then neg_ℤ (pos (digits_value 10 (digits_in word))) else pos (digits_value 10 (digits_in word))

-- The word is a numeral of this number.
abbrev pub IsNumeralOf : List ℕ → ℤ → Type 0
IsNumeralOf word number = IsNumber word × (number_in word ≡ number)

-- The word is a numeral of a number that 32 bits hold, with a sign.
abbrev pub IsInt32 : List ℕ → ℤ → Type 0
IsInt32 word number = IsNumeralOf word number × FitsSigned w32 number

-- The word is a numeral of a number that 64 bits hold, with a sign.
abbrev pub IsInt64 : List ℕ → ℤ → Type 0
IsInt64 word number = IsNumeralOf word number × FitsSigned w64 number

-- The word is a numeral of a number from 0 that 32 bits hold, without a sign.
abbrev pub IsNat32 : List ℕ → ℕ → Type 0
IsNat32 word number = IsNumeralOf word (pos number) × (number ≤ 4294967295)

-- The word is a numeral of a number from 0 that 64 bits hold, without a sign.
abbrev pub IsNat64 : List ℕ → ℕ → Type 0
IsNat64 word number = IsNumeralOf word (pos number) × (number ≤ 18446744073709551615)
