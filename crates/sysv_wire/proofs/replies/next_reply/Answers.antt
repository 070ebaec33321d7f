use Rattle.std.proofs.lemmas.Result.{err_from_is_err_and}
use Rattle.sysv_wire.proofs.ReplyLemmas.{triple_is, reply_broken, reply_read, reply_refused}
use Rattle.sysv_wire.proofs.replies.next_reply.Goals as goal

pub returns-in_err-version-clause-reads : goal.returns-in_err-version-clause-reads
returns-in_err-version-clause-reads g c =
    let p = err_from_is_err_and c.from_residual-in_err-version.result c.from_residual-in_err-version.ensures.1 in
    let found = (rw c.in-Some.is at c.in_ok-length.ensures.found) in
    rw (p.1, p.2)
    (reply_refused _ _ _ _ _ _ _ _ _ (triple_is c.read_head.new.head c.read_head.auto.head) found.1 found.2
    c.in_err-version.ensures.fault found.0)

pub returns-in_err-result-clause-reads : goal.returns-in_err-result-clause-reads
returns-in_err-result-clause-reads g c =
    let p = err_from_is_err_and c.from_residual-in_err-result.result c.from_residual-in_err-result.ensures.1 in
    let found = (rw c.in-Some.is at c.in_ok-length.ensures.found) in
    rw (p.1, p.2)
    (reply_broken _ _ _ _ _ _ _ _ _ _ _ _ _ (triple_is c.read_head.new.head c.read_head.auto.head)
    c.in_ok-version.ensures.version c.in_ok-version.ensures.op found.1 found.2 c.in_ok-version.ensures.rest.0
    c.in_ok-version.ensures.rest.1 c.in_ok-version.ensures.known found.0 c.in_err-result.ensures.fault)

pub returns-clause-reads : goal.returns-clause-reads
returns-clause-reads g c =
    let found = (rw c.in-Some.is at c.in_ok-length.ensures.found) in
    reply_read _ c.in_ok-result.result _ _ _ _ _ _ _ c.number.result _ c.read_rest.new.text _ _ _
    (triple_is c.read_head.new.head c.read_head.auto.head) c.in_ok-version.ensures.version c.in_ok-version.ensures.op
    found.1 found.2 c.in_ok-version.ensures.rest.0 c.number.ensures c.in_ok-result.ensures.len
    c.in_ok-result.ensures.answer c.in_ok-result.ensures.fits c.in_ok-result.ensures.error c.in_ok-result.ensures.text
    found.0 c.in_ok-result.ensures.taken c.in_ok-version.ensures.known
