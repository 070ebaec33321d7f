use Rattle.std.proofs.Common.{arith, ◌+◌}
use Rattle.std.proofs.lemmas.Result.{err_from_is_err_and}
use Rattle.sysv_clients.proofs.SendLemmas.{finishes}
use Rattle.sysv_clients.proofs.sending.Sender.finish.Goals as goal

pub returns-in_err-drain-clause-ends : goal.returns-in_err-drain-clause-ends
returns-in_err-drain-clause-ends g c = λ sending left taken fed unsent unfed so_far ends.
    let p = err_from_is_err_and c.from_residual.result c.from_residual.ensures.1 in
    rw (p.1, p.2) (c.in_err-drain.ensures.drains sending left taken fed unsent so_far unfed)

pub returns-clause-ends : goal.returns-clause-ends
returns-clause-ends g c = λ sending left taken fed unsent unfed so_far ends.
    let d = c.in_ok-drain.ensures.drains sending left taken fed unsent so_far in
    finishes sending c.args.ended (c.args.window.now.done + c.args.window.now.waiting) left _ taken _ fed unsent unfed
    c.drain.new.window d.0 (omega (arith, d.1)) (omega (arith, d.1, d.2)) ends
