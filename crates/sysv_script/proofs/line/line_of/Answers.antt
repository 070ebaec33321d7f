use Rattle.std.proofs.Common.{◌≡◌, ◌≢◌, ◌≤◌, length, get_or, rules}
use Rattle.sysv_script.proofs.CallNames.{begins}
use Rattle.sysv_script.proofs.LineKinds.{nothing_behind_plus, line_in_words}
use Rattle.sysv_script.proofs.line.line_of.Goals as goal

pub returns-in_err-actor-in-43-clause-says : goal.returns-in_err-actor-in-43-clause-says
returns-in_err-actor-in-43-clause-says c =
    let line = c.args.line.now in
    let long : 1 ≤ length line = search rules in
    let mark : get_or line 0 0 ≡ 43 = search rules in
    rw c.from_residual.ensures (nothing_behind_plus line _ (begins 43 line long mark) c.in_err-actor-in-43.ensures.says)

pub returns-in_default-clause-says : goal.returns-in_default-clause-says
returns-in_default-clause-says c =
    let line = c.args.line.now in
    let short : length line ≤ 9000 = search rules in
    let long : 1 ≤ length line = search rules in
    let hash : get_or line 0 0 ≢ 35 = search rules in
    let plus : get_or line 0 0 ≢ 43 = search rules in
    line_in_words line c.words_of.result short long hash plus c.words_of.ensures.says
