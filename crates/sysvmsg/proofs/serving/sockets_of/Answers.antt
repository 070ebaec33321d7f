-- There is one more socket if sessions are served alone.
use Rattle.std.proofs.Common.{◌∙◌, ap, not, sym}
use Rattle.sysvmsg.proofs.MadeSockets.{none_alone, one_alone}
use Rattle.sysvmsg.proofs.serving.sockets_of.Goals as goal

pub returns-then-is_none : goal.returns-then-is_none
returns-then-is_none g c =
    none_alone c.args.serving.now c.in_ok-sockets.sockets.items (c.is_none.ensures ∙ ap not c.if-is_none.true)
    c.in_ok-sockets.ensures

pub returns : goal.returns
returns g c =
    one_alone c.args.serving.now c.in_ok-sockets.sockets.items c.push.new.self.items c.new.result
    (c.is_none.ensures ∙ ap not c.if-is_none.false) c.in_ok-sockets.ensures c.new.ensures.closed
    (c.new.ensures.number ∙ (c.len-number.ensures ∙ c.in_ok-sockets.sockets.ok.0)) c.new.ensures.callers
    (rw (sym c.in_ok-ok.ensures.variant) at c.push.ensures.items)
