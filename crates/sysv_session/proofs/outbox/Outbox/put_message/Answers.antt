use Rattle.std.proofs.Common.{◌≡◌, [], ◌∷◌, ◌∙◌, ◌++◌, ap, sym}
use Rattle.sysv_session.specs.Answers.{message_reply}
use Rattle.sysv_session.specs.Outbox.{mark_at}
use Rattle.sysv_wire.specs.Replies.{reply_encoding}
use Rattle.sysv_session.proofs.LayoutLemmas.{message_order, message_view, ok_of}
use Rattle.sysv_session.proofs.outbox.Outbox.put_message.Goals as goal

pub invariant_of-self-2 : goal.invariant_of-self-2
invariant_of-self-2 c =
    let mark = mark_at c.len-ends.result c.args.delivery in
    let pushed : c.push_back_reserved.new.self.items ≡ c.self.inside.marks.items ++ mark ∷ [] =
    c.push_back_reserved.ensures.items ∙ ap (λ ms. ms ++ mark ∷ []) c.reserve.ensures.items in
    message_order c.self.inside.taken c.len-ends.result c.self.inside.marks.items
    c.push_back_reserved.new.self.items c.self.inside.bytes.items c.append.new.bytes.items _ c.args.delivery
    (ok_of c.append.result (sym c.is_err-else-is_err.ensures.value ∙ c.if-is_err-2.false) c.append.ensures.ok)
    (c.len-ends.ensures ∙ c.append.new.bytes.ok.0) pushed c.self.invariant

pub returns-clause-ok : goal.returns-clause-ok
returns-clause-ok c =
    let mark = mark_at c.len-ends.result c.args.delivery in
    let pushed : c.push_back_reserved.new.self.items ≡ c.self.inside.marks.items ++ mark ∷ [] =
    c.push_back_reserved.ensures.items ∙ ap (λ ms. ms ++ mark ∷ []) c.reserve.ensures.items in
    let frame = reply_encoding (message_reply c.args.version c.args.delivery.mtype) c.args.given.now in
    let grown : c.append.new.bytes.items ≡ c.self.inside.bytes.items ++ frame =
    ok_of c.append.result (sym c.is_err-else-is_err.ensures.value ∙ c.if-is_err-2.false) c.append.ensures.ok
    ∙ ap (λ r. c.self.inside.bytes.items ++ reply_encoding r c.args.given.now) c.message_reply-reply.ensures in
    message_view c.self.inside.taken c.len-ends.result c.self.inside.marks.items
    c.push_back_reserved.new.self.items c.self.inside.bytes.items c.append.new.bytes.items _ c.args.delivery grown
    (c.len-ends.ensures ∙ c.append.new.bytes.ok.0) pushed c.self.invariant _ c.self.view_is
