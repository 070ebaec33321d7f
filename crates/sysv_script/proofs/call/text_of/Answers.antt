use Rattle.std.proofs.Common.{◌≡◌, ◌≤◌, length, get_or, rules}
use Rattle.sysv_script.proofs.CallNames.{begins, no_letters}
use Rattle.sysv_script.proofs.call.text_of.Goals as goal

pub returns-in_err-letters_of-in-42-clause-says : goal.returns-in_err-letters_of-in-42-clause-says
returns-in_err-letters_of-in-42-clause-says c =
    let body = c.args.body.now in
    let long : 1 ≤ length body = search rules in
    let mark : get_or body 0 0 ≡ 42 = search rules in
    rw c.from_residual.ensures (no_letters body _ (begins 42 body long mark) c.in_err-letters_of-in-42.ensures)
