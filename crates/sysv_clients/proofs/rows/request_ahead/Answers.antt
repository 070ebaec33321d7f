use Rattle.std.proofs.Common.{arith}
use Rattle.std.proofs.lemmas.Result.{err_from_is_err_and}
use Rattle.sysv_clients.proofs.RowLemmas.{goes_ahead}
use Rattle.sysv_clients.proofs.rows.request_ahead.Goals as goal

pub returns-then-slot-sent-clause-requests : goal.returns-then-slot-sent-clause-requests
returns-then-slot-sent-clause-requests g c =
    (c.if-slot-sent.true, c.requires.before, c.requires.few, λ before wrote. wrote)

pub returns-in_err-request_rows-clause-requests : goal.returns-in_err-request_rows-clause-requests
returns-in_err-request_rows-clause-requests g c =
    let p = err_from_is_err_and c.from_residual.result c.from_residual.ensures.1 in
    rw p.1 (
      omega (arith, c.if-slot-sent.false, c.requires.after),
      c.min-next.result,
      omega (arith, c.requires.within, c.min-next.ensures),
      omega (arith, c.min-next.ensures),
      omega (arith, c.min-next.ensures),
      c.in_err-request_rows.ensures.err,
    )

pub returns-clause-requests : goal.returns-clause-requests
returns-clause-requests g c = (
  omega (arith, c.requires.within, c.min-next.ensures),
  omega (arith, c.min-next.ensures),
  omega (arith, c.min-next.ensures),
  λ before front. goes_ahead c.args.slot c.args.sent c.min-next.result c.args.text.now before _ _
      (omega (arith, c.if-slot-sent.false)) c.in_ok-request_rows.ensures.ok front,
)
