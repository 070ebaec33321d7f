-- A numeral is valid UTF-8.
use Rattle.std.proofs.Common.{◌≡◌, ◌<◌, ◌≤◌, ◌^◌, length, ℕ, List, [], ◌∷◌, Bool, true, false, nat_eq, cond, refl}
use Rattle.std.proofs.Common.{arith}
use Rattle.std.proofs.lemmas.Bool.Decides.{nat_tests}
use Rattle.std.proofs.lemmas.Fmt.{IsAscii-from_digits}
use Rattle.std.proofs.lemmas.Str.{IsUtf8-from_ascii}
use Rattle.std.proofs.lemmas.Str.Ascii.{IsAscii-nil, IsAscii-cons}
use Rattle.std.specs.Str.{IsAscii, IsUtf8}
use Rattle.std.specs.Char.{digit_value}
use Rattle.std.specs.Str.Parse.{AllDigits, IsNumeral, digits_value}
use Rattle.std.proofs.lemmas.Int.Digits.{digits_value-lt}
use Rattle.sysv_words.specs.Words.{IsNumber}

IsAscii-signed : (minus : Bool) (c : ℕ) (cs : List ℕ) → nat_eq c 45 ≡ minus → IsNumeral 10 (cond minus cs (c ∷ cs)) →
    IsAscii (c ∷ cs)
IsAscii-signed true c cs e h =
    let small : c < 128 = grind (arith, nat_tests, e) in IsAscii-cons c cs small (IsAscii-from_digits cs h.1)
IsAscii-signed false c cs e h = IsAscii-from_digits (c ∷ cs) h.1

IsAscii-number : (word : List ℕ) → IsNumber word → IsAscii word
IsAscii-number [] h = IsAscii-nil
IsAscii-number (c ∷ cs) h = IsAscii-signed (nat_eq c 45) c cs refl h

pub IsUtf8-number : (word : List ℕ) → IsNumber word → IsUtf8 word
IsUtf8-number word h = IsUtf8-from_ascii word (IsAscii-number word h)

digits_below : (d : ℕ) (radix : ℕ) → radix ≤ 10 → digit_value d < radix → digit_value d < 10
digits_below d radix few h = omega (arith, few, h)

AllDigits-decimal : (radix : ℕ) (ds : List ℕ) → radix ≤ 10 → AllDigits radix ds → AllDigits 10 ds
AllDigits-decimal radix [] few h = h
AllDigits-decimal radix (d ∷ ds) few h = (digits_below d radix few h.0, AllDigits-decimal radix ds few h.1)

-- A text of digits alone is valid UTF-8.
pub IsUtf8-digits : (radix : ℕ) (word : List ℕ) → radix ≤ 10 → IsNumeral radix word → IsUtf8 word
IsUtf8-digits radix word few h =
    IsUtf8-from_ascii word (IsAscii-from_digits word (AllDigits-decimal radix word few h.1))

-- The number of at most four octal digits is small.
pub octal_small : (ds : List ℕ) → AllDigits 8 ds → length ds ≤ 4 → digits_value 8 ds < 2 ^ 32
octal_small [] h few = omega arith
octal_small (a ∷ []) h few =
    let small : digits_value 8 (a ∷ []) < 8 = digits_value-lt 8 (a ∷ []) h in omega (arith, small)
octal_small (a ∷ b ∷ []) h few =
    let small : digits_value 8 (a ∷ b ∷ []) < 64 = digits_value-lt 8 (a ∷ b ∷ []) h in omega (arith, small)
octal_small (a ∷ b ∷ c ∷ []) h few =
    let small : digits_value 8 (a ∷ b ∷ c ∷ []) < 512 = digits_value-lt 8 (a ∷ b ∷ c ∷ []) h in omega (arith, small)
octal_small (a ∷ b ∷ c ∷ d ∷ []) h few =
    let small : digits_value 8 (a ∷ b ∷ c ∷ d ∷ []) < 4096 = digits_value-lt 8 (a ∷ b ∷ c ∷ d ∷ []) h in
    omega (arith, small)
octal_small (a ∷ b ∷ c ∷ d ∷ e ∷ ds) h few = absurd (omega (arith, few))
