use Rattle.std.proofs.Common.{refl, sym, ◌∙◌}
use Rattle.sysv_wire.proofs.StreamLemmas.{Appends-as, AppendsPrefix-as}
use Rattle.sysv_wire.proofs.ReplyLemmas.{reply_with_text, reply_without_text}
use Rattle.sysv_wire.proofs.replies.write_reply.Goals as goal

pub returns-then-takes_text-clause-ok : goal.returns-then-takes_text-clause-ok
returns-then-takes_text-clause-ok g c =
    Appends-as c.write_both.result _ _ _ _
    (reply_with_text c.args.reply.now.version c.args.reply.now.op c.args.reply.now.result _ c.args.text.now
    c.put_head.new.frame c.bytes.result.now c.len.result refl (sym c.takes_text.ensures ∙ c.if-takes_text.true)
    c.bytes.ensures c.len.ensures.value c.put_head.ensures)
    c.write_both.ensures.ok

pub returns-then-takes_text-clause-err : goal.returns-then-takes_text-clause-err
returns-then-takes_text-clause-err g c =
    AppendsPrefix-as c.write_both.result _ _ _ _
    (reply_with_text c.args.reply.now.version c.args.reply.now.op c.args.reply.now.result _ c.args.text.now
    c.put_head.new.frame c.bytes.result.now c.len.result refl (sym c.takes_text.ensures ∙ c.if-takes_text.true)
    c.bytes.ensures c.len.ensures.value c.put_head.ensures)
    c.write_both.ensures.err

pub returns-else-takes_text-clause-ok : goal.returns-else-takes_text-clause-ok
returns-else-takes_text-clause-ok g c =
    Appends-as c.write_out.result _ _ _ _
    (reply_without_text c.args.reply.now.version c.args.reply.now.op c.args.reply.now.result _ c.args.text.now
    c.put_head-else-takes_text.new.frame c.bytes-else-takes_text.result.now refl
    (sym c.takes_text.ensures ∙ c.if-takes_text.false) c.bytes-else-takes_text.ensures
    c.put_head-else-takes_text.ensures) c.write_out.ensures.ok

pub returns-else-takes_text-clause-err : goal.returns-else-takes_text-clause-err
returns-else-takes_text-clause-err g c =
    AppendsPrefix-as c.write_out.result _ _ _ _
    (reply_without_text c.args.reply.now.version c.args.reply.now.op c.args.reply.now.result _ c.args.text.now
    c.put_head-else-takes_text.new.frame c.bytes-else-takes_text.result.now refl
    (sym c.takes_text.ensures ∙ c.if-takes_text.false) c.bytes-else-takes_text.ensures
    c.put_head-else-takes_text.ensures) c.write_out.ensures.err
