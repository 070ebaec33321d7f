use Rattle.std.proofs.Common.{◌≢◌, ◌≤◌, length, get_or, subst, rules}
use Rattle.std.specs.Str.Parse.{ParsesUnsigned}
use Rattle.sysv_clients.proofs.WordLemmas.{IsUtf8-hex, hex_read}
use Rattle.sysv_clients.proofs.words.hex_number.Goals as goal

pub returns-in-Err : goal.returns-in-Err
returns-in-Err c = λ h. c.in-Err.ensures.cases.0 (IsUtf8-hex c.args.digits.now h.0.1)

pub returns-in-Ok : goal.returns-in-Ok
returns-in-Ok c =
    let whole = c.in-Ok.ensures.cases.0 in
    let few : length c.args.digits.now ≤ 8 = search rules in
    let plain : get_or c.args.digits.now 0 0 ≢ 43 = search rules in
    rw c.ok.ensures.value
    (hex_read c.args.digits.now c.from_str_radix.result plain few
    (subst (λ ds. ParsesUnsigned 32 16 ds c.from_str_radix.result) whole c.from_str_radix.ensures.value))
