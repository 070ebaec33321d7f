use Rattle.std.proofs.Common.{List, ℕ, Option, subst}
use Rattle.sysv_model.specs.Instrumented.{stream_of}
use Rattle.sysv_wire.specs.Reading.{ReadsReply}
use Rattle.sysv_wire.proofs.ReplyAnswer.{reply_only}
use Rattle.sysv_wire.proofs.replies.read_reply_up_to.Goals as goal

pub returns-clause-only : goal.returns-clause-only
returns-clause-only g c = λ input answer known fits.
    let new = g.R.Read.remaining (stream_of c.next_reply.new.reader) in
    let result = c.next_reply.result in
    let text = c.next_reply.new.text in
    reply_only c.args.newest input new result answer text
    (subst (λ (old : Option (List ℕ)). ReadsReply c.args.newest old new result text) known c.next_reply.ensures.reads)
    fits
