-- A word has at most one value of each kind, and it is decided whether it has one.
use Rattle.std.proofs.Common.{◌≡◌, ◌≤◌, ℕ, ℤ, pos, inl, inr, List, length, arith, refl, sym, ap, subst, ◌∙◌, w32, w64}
use Rattle.std.specs.Str.Parse.{AllDigits, digits_value}
use Rattle.std.specs.Int.RustNames.{FitsSigned}
use mir.Syntax.{Width}
use Rattle.sysv_words.specs.declared.octal.Octal.{Octal}
use Rattle.sysv_words.specs.Words.{IsNumeralOf, number_in, IsInt32, IsInt64, IsNat32, IsNat64}
use Rattle.sysv_words.specs.FlagNames.{IsFlagList}
use Rattle.sysv_words.specs.Octal.{IsOctal}
use Rattle.sysv_words.specs.Readings.{SaysOnce, IsDecided, IsReading, WordsAreRead}
use Rattle.sysv_words.specs.Deciding.{Decided, four, at_most_or_not}
use Rattle.sysv_words.proofs.NumeralsOrNot.{digits_or_not, signed_or_not, number_between_or_not, number_between}
use Rattle.sysv_words.proofs.NumeralsOrNot.{numeral_between}
use Rattle.sysv_words.proofs.FlagsOrNot.{flags_or_not}
use Rattle.sysv_words.proofs.FlagLists.{flag_list_once}

-- ---- numerals

numeral_once : (word : List ℕ) (a b : ℤ) → IsNumeralOf word a → IsNumeralOf word b → a ≡ b
numeral_once word a b h k = sym h.1 ∙ k.1

pos_same : (a b : ℕ) → pos a ≡ pos b → a ≡ b
pos_same a b e = cc

abbrev IsSigned : Width → List ℕ → ℤ → Type 0
IsSigned w word number = IsNumeralOf word number × FitsSigned w number

abbrev IsNatural : ℕ → List ℕ → ℕ → Type 0
IsNatural most word number = IsNumeralOf word (pos number) × (number ≤ most)

signed_decided : (w : Width) → IsDecided (IsSigned w)
signed_decided w word = elim (signed_or_not w word) [
  | inl h ↦ inl (number_in word, ((h.0, refl), h.1))
  | inr none ↦ inr (λ value h. none (h.0.0, subst (FitsSigned w) (sym h.0.1) h.1))
]

natural_decided : (most : ℕ) → IsDecided (IsNatural most)
natural_decided most word = elim (number_between_or_not 0 most word) [
  | inl h ↦ let found = number_between 0 most word h in inl (found.0, (found.1, found.3))
  | inr none ↦ inr (λ value h. none (numeral_between 0 most word value h.0 (omega arith) h.1))
]

int32 : IsReading IsInt32
int32 = record { once = λ word a b h k. numeral_once word a b h.0 k.0; decided = signed_decided w32 }

int64 : IsReading IsInt64
int64 = record { once = λ word a b h k. numeral_once word a b h.0 k.0; decided = signed_decided w64 }

nat32 : IsReading IsNat32
nat32 = record {
  once = λ word a b h k. pos_same a b (numeral_once word (pos a) (pos b) h.0 k.0);
  decided = natural_decided 4294967295;
}

nat64 : IsReading IsNat64
nat64 = record {
  once = λ word a b h k. pos_same a b (numeral_once word (pos a) (pos b) h.0 k.0);
  decided = natural_decided 18446744073709551615;
}

-- ---- octal numerals and flags

abbrev octal_made : ℕ → Octal
octal_made mode = record { 0 = mode }

octal_once : SaysOnce IsOctal
octal_once word a b h k = ap octal_made (h.value ∙ sym k.value)

mode_or_not : (word : List ℕ) →
    Decided ((1 ≤ length word) × (length word ≤ 4) × AllDigits 8 word × (digits_value 8 word ≤ 511))
mode_or_not word = four (at_most_or_not 1 (length word)) (at_most_or_not (length word) 4) (digits_or_not 8 word)
    (at_most_or_not (digits_value 8 word) 511)

octal_decided : IsDecided IsOctal
octal_decided word = elim (mode_or_not word) [
  | inl h ↦
      inl (octal_made (digits_value 8 word), record { least = h.0; most = h.1; digits = h.2; value = refl; low = h.3 })
  | inr none ↦ inr (λ mode h. none (h.least, h.most, h.digits, subst (λ n. n ≤ 511) h.value h.low))
]

octal : IsReading IsOctal
octal = record { once = octal_once; decided = octal_decided }

flags_decided : IsDecided IsFlagList
flags_decided word = elim (flags_or_not word) [
  | inl h ↦ inl (record { 0 = h.0 }, h.1)
  | inr none ↦ inr (λ flags h. none (flags.0, h))
]

flags : IsReading IsFlagList
flags = record { once = flag_list_once; decided = flags_decided }

-- ---- all of them

pub each_word : WordsAreRead
each_word = record { int32 = int32; int64 = int64; nat32 = nat32; nat64 = nat64; flags = flags; octal = octal }
