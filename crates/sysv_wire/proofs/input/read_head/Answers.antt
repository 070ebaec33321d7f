use Rattle.std.proofs.Common.{arith}
use Rattle.std.proofs.lemmas.Result.{err_from_is_err_and}
use Rattle.sysv_wire.proofs.HeadLemmas.{head_refused, head_broken}
use Rattle.sysv_wire.proofs.input.read_head.Goals as goal

pub returns-in_err-check_length-clause-fault : goal.returns-in_err-check_length-clause-fault
returns-in_err-check_length-clause-fault g c =
    let p =
    err_from_is_err_and c.from_residual-in_err-check_length.result c.from_residual-in_err-check_length.ensures.1 in
    rw (p.1, p.2)
    (head_refused _ _ _ _ _ _ (omega arith) (rw c.in-Some.is at c.in_ok-length.ensures.found)
    c.in_err-check_length.ensures.fault)

pub returns-in_err-fill_all-clause-fault : goal.returns-in_err-fill_all-clause-fault
returns-in_err-fill_all-clause-fault g c =
    let p = err_from_is_err_and c.from_residual-in_err-fill_all.result c.from_residual-in_err-fill_all.ensures.1 in
    rw (p.1, p.2)
    (head_broken _ _ _ _ _ _ _ c.in_ok-check_length.ensures.within.0 c.in_ok-check_length.ensures.within.1
    (rw c.in-Some.is at c.in_ok-length.ensures.found) c.in_err-fill_all.ensures.fault)
