-- The line has the place at its end, or is as it was.
use Rattle.std.proofs.Common.{◌∙◌, sym}
use Rattle.std.specs.Result.{is_ok}
use Rattle.std.proofs.lemmas.Bool.{cond-true, cond-false}
use Rattle.sysv_parking.proofs.Places.{appends_at, same_at}
use Rattle.sysv_parking.proofs.lines.append.Goals as goal

pub returns-in-Some-clause-appended : goal.returns-in-Some-clause-appended
returns-in-Some-clause-appended c = λ ok.
    appends_at (λ q. q.items) c.args.lines.now.items c.args.line c.args.place c.in-Some.line.now c.push_back.new.self
    c.in-Some.ensures.item.3.0 c.in-Some.ensures.value
    (c.push_back.ensures.items ∙ cond-true (is_ok c.push_back.result) _ _ (sym c.is_ok.ensures.value ∙ ok))

pub returns-in-Some-clause-refused : goal.returns-in-Some-clause-refused
returns-in-Some-clause-refused c = λ refused.
    same_at (λ q. q.items) c.args.lines.now.items c.args.line c.args.place c.in-Some.line.now c.push_back.new.self
    c.in-Some.ensures.item.3.0 c.in-Some.ensures.value
    (c.push_back.ensures.items ∙ cond-false (is_ok c.push_back.result) _ _ (sym c.is_ok.ensures.value ∙ refused))
