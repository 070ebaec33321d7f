-- The words of a command line, and what they mean.
use Rattle.std.proofs.Common.{◌≢◌, ◌<◌, ◌≤◌, ◌^◌, ℕ, List, [], ◌∷◌, length, get_or, Result, Ok, Err, sym, ap, subst}
use Rattle.std.proofs.Common.{◌≡◌, ◌∙◌, arith}
use Rattle.std.specs.Prelude.{MatchOption}
use Rattle.std.specs.Option.{SomeIff}
use Rattle.std.specs.Result.{result_ok}
use Rattle.std.specs.Char.{digit_value}
use Rattle.std.specs.Str.{IsAscii, IsUtf8}
use Rattle.std.specs.Str.Parse.{AllDigits, IsNumeral, ParsesUnsigned, digits_value, without_leading_plus}
use Rattle.std.proofs.Math.Nat.{pow-le-pow_right}
use Rattle.std.proofs.lemmas.Bool.Decides.{nat_tests}
use Rattle.std.proofs.lemmas.Int.Digits.{digits_value-lt}
use Rattle.std.proofs.lemmas.Result.{OkIff-at_ok, OkIff-at_err}
use Rattle.std.proofs.lemmas.Str.{IsUtf8-from_ascii}
use Rattle.std.proofs.lemmas.Str.Ascii.{IsAscii-nil, IsAscii-cons}
use Rattle.std.proofs.lemmas.Str.Parse.{without_leading_plus_none}
use Rattle.sysv_clients.specs.Words.{IsPerms}

hex_glyph : (c : ℕ) → digit_value c < 16 → c < 128
hex_glyph c small = grind (arith, nat_tests)

IsAscii-hex : (ds : List ℕ) → AllDigits 16 ds → IsAscii ds
IsAscii-hex [] h = IsAscii-nil
IsAscii-hex (d ∷ ds) h = IsAscii-cons d ds (hex_glyph d h.0) (IsAscii-hex ds h.1)

pub IsUtf8-hex : (ds : List ℕ) → AllDigits 16 ds → IsUtf8 ds
IsUtf8-hex ds h = IsUtf8-from_ascii ds (IsAscii-hex ds h)

-- Eight hexadecimal digits are a number of 32 bits.
hex_small : (ds : List ℕ) → AllDigits 16 ds → length ds ≤ 8 → digits_value 16 ds < 2 ^ 32
hex_small ds h few =
    let below : digits_value 16 ds < 16 ^ length ds = digits_value-lt 16 ds h in
    let most : 16 ^ length ds ≤ 16 ^ 8 = pow-le-pow_right (omega arith) few in
    omega (arith, below, most)

-- The result of parsing at most eight digits that do not begin with a plus.
pub hex_read : {E : Type 0} (digits : List ℕ) (r : Result ℕ E) → get_or digits 0 0 ≢ 43 → length digits ≤ 8 →
    ParsesUnsigned 32 16 digits r →
    SomeIff (result_ok r) (IsNumeral 16 digits × (length digits ≤ 8)) (digits_value 16 digits)
hex_read {E} digits (Ok x) plain few h =
    let own = without_leading_plus_none digits plain in
    let read = OkIff-at_ok {T = ℕ} {E = E} (Ok x) _ _ x h (λ i. Ok x) in
    ((subst (IsNumeral 16) own read.0.0, few), read.1 ∙ ap (digits_value 16) own)
hex_read {E} digits (Err e) plain few h =
    let own = without_leading_plus_none digits plain in
    λ n. OkIff-at_err {T = ℕ} {E = E} (Err e) _ (digits_value 16 (without_leading_plus digits)) e h (λ i. Err e) (
      subst (IsNumeral 16) (sym own) n.0,
      subst (λ ds. digits_value 16 ds < 2 ^ 32) (sym own) (hex_small digits n.0.1 few),
    )

octal_glyph : (c : ℕ) → digit_value c < 8 → c < 128
octal_glyph c small = grind (arith, nat_tests)

IsAscii-octal : (ds : List ℕ) → AllDigits 8 ds → IsAscii ds
IsAscii-octal [] h = IsAscii-nil
IsAscii-octal (d ∷ ds) h = IsAscii-cons d ds (octal_glyph d h.0) (IsAscii-octal ds h.1)

pub IsUtf8-octal : (ds : List ℕ) → AllDigits 8 ds → IsUtf8 ds
IsUtf8-octal ds h = IsUtf8-from_ascii ds (IsAscii-octal ds h)

-- Three octal digits are a number of 32 bits.
octal_small : (ds : List ℕ) → AllDigits 8 ds → length ds ≡ 3 → digits_value 8 ds < 2 ^ 32
octal_small ds h three =
    let below : digits_value 8 ds < 8 ^ length ds = digits_value-lt 8 ds h in
    let few : length ds ≤ 3 = omega (arith, three) in
    let most : 8 ^ length ds ≤ 8 ^ 3 = pow-le-pow_right (omega arith) few in
    omega (arith, below, most)

-- The result of parsing three digits that do not begin with a plus.
pub perms_read : {E : Type 0} (digits : List ℕ) (r : Result ℕ E) → get_or digits 0 0 ≢ 43 → length digits ≡ 3 →
    ParsesUnsigned 32 8 digits r →
    MatchOption (result_ok r) ((mode : ℕ) → ¬ IsPerms digits mode) (IsPerms digits)
perms_read {E} digits (Ok x) plain three h =
    let own = without_leading_plus_none digits plain in
    let read = OkIff-at_ok {T = ℕ} {E = E} (Ok x) _ _ x h (λ i. Ok x) in
    (subst (IsNumeral 8) own read.0.0, three, read.1 ∙ ap (digits_value 8) own)
perms_read {E} digits (Err e) plain three h =
    let own = without_leading_plus_none digits plain in
    λ mode n. OkIff-at_err {T = ℕ} {E = E} (Err e) _ (digits_value 8 (without_leading_plus digits)) e h (λ i. Err e) (
      subst (IsNumeral 8) (sym own) n.0,
      subst (λ ds. digits_value 8 ds < 2 ^ 32) (sym own) (octal_small digits n.0.1 three),
    )
