use Rattle.sysv_wire.proofs.StreamLemmas.{Appends-next, AppendsPrefix-next, AppendsPrefix-longer, OnErr-from}
use Rattle.sysv_wire.proofs.output.write_both.Goals as goal

pub returns-in_err-write_out-clause-err : goal.returns-in_err-write_out-clause-err
returns-in_err-write_out-clause-err g c =
    OnErr-from c.from_residual.result
    (AppendsPrefix-longer _ _ c.args.front.now c.args.text.now c.in_err-write_out.ensures.err)

pub returns-clause-ok : goal.returns-clause-ok
returns-clause-ok g c =
    Appends-next c.write_text.result _ _ _ c.args.front.now c.args.text.now c.in_ok-write_out.ensures.ok
    c.write_text.ensures.ok

pub returns-clause-err : goal.returns-clause-err
returns-clause-err g c =
    AppendsPrefix-next c.write_text.result _ _ _ c.args.front.now c.args.text.now c.in_ok-write_out.ensures.ok
    c.write_text.ensures.err
