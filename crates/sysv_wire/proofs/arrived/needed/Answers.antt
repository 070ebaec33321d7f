use Rattle.std.proofs.Common.{arith, refl}
use Rattle.std.proofs.lemmas.Result.{err_from_is_err_and}
use Rattle.sysv_wire.proofs.ArrivedLemmas.{op_refused}
use Rattle.sysv_wire.proofs.WholeRequest.{checked}
use Rattle.sysv_wire.proofs.arrived.needed.Goals as goal

pub returns-in_err-judge-clause-err : goal.returns-in_err-judge-clause-err
returns-in_err-judge-clause-err c =
    let p = err_from_is_err_and c.from_residual-in_err-judge.result c.from_residual-in_err-judge.ensures.1 in
    let within = c.in_ok-check_length.ensures.within in
    rw (p.1, p.2)
    (op_refused c.args.newest c.take_u32-length.result.0 _ _ c.args.bytes.now c.take_u32-length.result.1.now _
    c.take_u32-length.ensures.encoded c.if-content-least.false refl refl within.0 within.1
    c.in_err-judge.ensures.fault)

pub returns-clause-ok : goal.returns-clause-ok
returns-clause-ok c =
    checked c.args.newest c.take_u32-length.result.0 c.in_ok-judge.field-0.0 c.in_ok-judge.field-0.1 c.args.bytes.now
    c.take_u32-length.result.1.now c.take_u32-length.ensures.encoded (λ i. omega (arith, c.type_inv.bytes i))
    c.if-content-least.false c.in_ok-judge.ensures.version c.in_ok-judge.ensures.op.0
    c.in_ok-check_length.ensures.within.1 c.in_ok-judge.ensures.op.1 c.in_ok-judge.ensures.known
