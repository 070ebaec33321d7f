use Rattle.std.proofs.Common.{◌<◌, ◌^◌, ◌≢◌, ◌≤◌, ◌∙◌, ℕ, List, Result, Ok, Err, length, get_or, sym, ap, subst, arith}
use Rattle.std.proofs.Common.{rules}
use Rattle.std.specs.Option.{SomeIff}
use Rattle.std.specs.Result.{result_ok}
use Rattle.std.specs.Str.Parse.{IsNumeral, ParsesUnsigned, digits_value}
use Rattle.std.proofs.lemmas.Result.{OkIff-at_ok, OkIff-at_err}
use Rattle.std.proofs.lemmas.Str.Parse.{without_leading_plus_none}
use Rattle.std.specs.Str.Parse.{without_leading_plus}
use Rattle.sysv_words.proofs.Numerals.{IsUtf8-digits, octal_small}
use Rattle.sysv_words.proofs.octal.octal_number.Goals as goal

-- What is read of at most four digits without a plus before them.
octal_read : {E : Type 0} (digits : List ℕ) (r : Result ℕ E) → get_or digits 0 0 ≢ 43 → length digits ≤ 4 →
    ParsesUnsigned 32 8 digits r →
    SomeIff (result_ok r) (IsNumeral 8 digits × (length digits ≤ 4)) (digits_value 8 digits)
octal_read {E} digits (Ok x) plain few h =
    let own = without_leading_plus_none digits plain in
    let read = OkIff-at_ok {T = ℕ} {E = E} (Ok x) _ _ x h (λ i. Ok x) in
    ((subst (IsNumeral 8) own read.0.0, few), read.1 ∙ ap (digits_value 8) own)
octal_read {E} digits (Err e) plain few h =
    let own = without_leading_plus_none digits plain in
    λ n. OkIff-at_err {T = ℕ} {E = E} (Err e) _ (digits_value 8 (without_leading_plus digits)) e h (λ i. Err e) (
      subst (IsNumeral 8) (sym own) n.0,
      subst (λ ds. digits_value 8 ds < 2 ^ 32) (sym own) (octal_small digits n.0.1 few),
    )

pub returns-in-Err : goal.returns-in-Err
returns-in-Err c = λ h. c.in-Err.ensures.cases.0 (IsUtf8-digits 8 c.args.digits.now (omega arith) h.0)

pub returns-in-Ok : goal.returns-in-Ok
returns-in-Ok c =
    let whole = c.in-Ok.ensures.cases.0 in
    let few : length c.args.digits.now ≤ 4 = search rules in
    let plain : get_or c.args.digits.now 0 0 ≢ 43 = search rules in
    rw c.ok.ensures.value
    (octal_read c.args.digits.now c.from_str_radix.result plain few
    (subst (λ ds. ParsesUnsigned 32 8 ds c.from_str_radix.result) whole c.from_str_radix.ensures.value))
