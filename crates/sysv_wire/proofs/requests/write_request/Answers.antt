use Rattle.std.proofs.Common.{sym, ◌∙◌}
use Rattle.sysv_wire.proofs.StreamLemmas.{Appends-as, AppendsPrefix-as}
use Rattle.sysv_wire.proofs.RequestLemmas.{request_with_text, request_without_text}
use Rattle.sysv_wire.proofs.requests.write_request.Goals as goal

pub returns-then-takes_text-clause-ok : goal.returns-then-takes_text-clause-ok
returns-then-takes_text-clause-ok g c =
    Appends-as c.write_both.result _ _ _ _
    (request_with_text c.args.request.now.version c.args.request.now.ask c.op-op.result c.fields_of-fields.result
    c.args.text.now c.head_of-head.result c.bytes.result.now c.len.result c.op-op.ensures
    c.fields_of-fields.ensures.fields (sym c.takes_text.ensures ∙ c.if-takes_text.true) c.bytes.ensures
    c.len.ensures.value c.head_of-head.ensures) c.write_both.ensures.ok

pub returns-then-takes_text-clause-err : goal.returns-then-takes_text-clause-err
returns-then-takes_text-clause-err g c =
    AppendsPrefix-as c.write_both.result _ _ _ _
    (request_with_text c.args.request.now.version c.args.request.now.ask c.op-op.result c.fields_of-fields.result
    c.args.text.now c.head_of-head.result c.bytes.result.now c.len.result c.op-op.ensures
    c.fields_of-fields.ensures.fields (sym c.takes_text.ensures ∙ c.if-takes_text.true) c.bytes.ensures
    c.len.ensures.value c.head_of-head.ensures) c.write_both.ensures.err

pub returns-else-takes_text-clause-ok : goal.returns-else-takes_text-clause-ok
returns-else-takes_text-clause-ok g c =
    Appends-as c.write_out.result _ _ _ _
    (request_without_text c.args.request.now.version c.args.request.now.ask c.op-op.result c.fields_of-fields.result
    c.args.text.now c.head_of-head-else-takes_text.result c.bytes-else-takes_text.result.now c.op-op.ensures
    c.fields_of-fields.ensures.fields (sym c.takes_text.ensures ∙ c.if-takes_text.false) c.bytes-else-takes_text.ensures
    c.head_of-head-else-takes_text.ensures) c.write_out.ensures.ok

pub returns-else-takes_text-clause-err : goal.returns-else-takes_text-clause-err
returns-else-takes_text-clause-err g c =
    AppendsPrefix-as c.write_out.result _ _ _ _
    (request_without_text c.args.request.now.version c.args.request.now.ask c.op-op.result c.fields_of-fields.result
    c.args.text.now c.head_of-head-else-takes_text.result c.bytes-else-takes_text.result.now c.op-op.ensures
    c.fields_of-fields.ensures.fields (sym c.takes_text.ensures ∙ c.if-takes_text.false) c.bytes-else-takes_text.ensures
    c.head_of-head-else-takes_text.ensures) c.write_out.ensures.err
