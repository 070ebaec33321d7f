use Rattle.std.proofs.lemmas.Result.{err_from_is_err_and}
use Rattle.sysv_wire.proofs.RequestLemmas.{pair_is, request_broken, request_read}
use Rattle.sysv_wire.proofs.requests.next_request.Goals as goal

pub returns-in_err-ask-clause-reads : goal.returns-in_err-ask-clause-reads
returns-in_err-ask-clause-reads g c =
    let p = err_from_is_err_and c.from_residual-in_err-ask.result c.from_residual-in_err-ask.ensures.1 in
    let found = (rw c.in-Some.is at c.in_ok-length.ensures.found) in
    rw (p.1, p.2)
    (request_broken _ _ _ _ _ _ _ _ _ _ _ (pair_is c.read_head.new.head c.read_head.auto.head)
    c.in_ok-version.ensures.version c.in_ok-version.ensures.op.0 found.2 c.in_ok-version.ensures.op.1
    c.in_ok-version.ensures.known found.0
    c.in_err-ask.ensures.fault)

pub returns-clause-reads : goal.returns-clause-reads
returns-clause-reads g c =
    let found = (rw c.in-Some.is at c.in_ok-length.ensures.found) in
    request_read _ c.in_ok-ask.ask _ _ _ _ _ _ c.read_ask.new.text _ _ _
    (pair_is c.read_head.new.head c.read_head.auto.head) c.in_ok-version.ensures.version c.in_ok-version.ensures.op.0
    found.2 c.in_ok-version.ensures.known c.in_ok-ask.ensures.fits c.in_ok-ask.ensures.len c.in_ok-ask.ensures.op
    c.in_ok-ask.ensures.text found.0
    c.in_ok-ask.ensures.taken
