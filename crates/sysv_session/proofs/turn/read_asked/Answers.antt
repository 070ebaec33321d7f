use Rattle.std.proofs.lemmas.Result.{err_from_is_err_and}
use Rattle.sysv_session.proofs.LaterLemmas.{refused_later}
use Rattle.sysv_session.proofs.turn.read_asked.Goals as goal

pub returns-in_err-found-clause-reads : goal.returns-in_err-found-clause-reads
returns-in_err-found-clause-reads g c =
    let p = err_from_is_err_and c.from_residual.result c.from_residual.ensures.1 in
    rw (p.1, p.2) (refused_later _ _ _ _ _ c.in_err-found.ensures.reads)
