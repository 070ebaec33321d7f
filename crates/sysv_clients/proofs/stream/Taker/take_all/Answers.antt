use Rattle.std.proofs.lemmas.Result.{err_from_is_err_and}
use Rattle.sysv_clients.proofs.StreamLemmas.{closes_unshown}
use Rattle.sysv_clients.proofs.stream.Taker.take_all.Goals as goal

pub returns-in_err-show_page-clause-takes : goal.returns-in_err-show_page-clause-takes
returns-in_err-show_page-clause-takes g c =
    let p = err_from_is_err_and c.from_residual-in_err-show_page.result
    c.from_residual-in_err-show_page.ensures.1 in
    rw (p.1, p.2)
    (closes_unshown _ c.args.receiving.now c.in_ok-fault.fault c.in_err-show_page.field-0.0 _ _ _ _ _ _ _
    c.in_ok-fault.ensures.ok c.in_err-show_page.ensures.err)
