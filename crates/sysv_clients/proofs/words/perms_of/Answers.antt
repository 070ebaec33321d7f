use Rattle.std.proofs.Common.{◌≡◌, ◌≢◌, length, get_or, subst, rules}
use Rattle.std.specs.Str.Parse.{ParsesUnsigned}
use Rattle.sysv_clients.proofs.WordLemmas.{IsUtf8-octal, perms_read}
use Rattle.sysv_clients.proofs.words.perms_of.Goals as goal

pub returns-in-Err : goal.returns-in-Err
returns-in-Err c = λ mode h. c.in-Err.ensures.cases.0 (IsUtf8-octal c.args.word.now h.0.1)

pub returns-in-Ok : goal.returns-in-Ok
returns-in-Ok c =
    let whole = c.in-Ok.ensures.cases.0 in
    let three : length c.args.word.now ≡ 3 = search rules in
    let plain : get_or c.args.word.now 0 0 ≢ 43 = search rules in
    rw c.ok.ensures.value
    (perms_read c.args.word.now c.from_str_radix.result plain three
    (subst (λ ds. ParsesUnsigned 32 8 ds c.from_str_radix.result) whole c.from_str_radix.ensures.value))
