use Rattle.std.proofs.Common.{arith}
use Rattle.std.proofs.lemmas.Result.{err_from_is_err_and}
use Rattle.sysv_wire.proofs.ReplyLemmas.{rest_broken}
use Rattle.sysv_wire.proofs.replies.read_message.Goals as goal

pub returns-in_err-read_text-clause-fault : goal.returns-in_err-read_text-clause-fault
returns-in_err-read_text-clause-fault g c =
    let p = err_from_is_err_and c.from_residual-in_err-read_text.result c.from_residual-in_err-read_text.ensures.1 in
    rw (p.1, p.2)
    (rest_broken c.args.op 0 _ _ _ _ _ _ _ (omega (arith, c.fill_all.auto.bytes)) c.in_ok-fill_all.ensures.taken
    c.in_err-read_text.ensures.fault)
