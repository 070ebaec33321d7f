-- The next socket is made, or there are no more.
use Rattle.std.proofs.Common.{◌∙◌, ap, sym, vec_len}
use Rattle.std.specs.Prelude.{slice_get}
use Rattle.sysv_options.specs.Sockets.{sockets_of}
use Rattle.sysvmsg.proofs.MadeSockets.{common_made, fewer_left, next_made}
use Rattle.sysvmsg.proofs.serving.common_of.Goals as goal

pub loop-socket-preserved : goal.loop-socket-preserved
loop-socket-preserved g c =
    next_made c.args.serving.now (vec_len c.loop-socket.sockets) (vec_len c.push.new.self) c.loop-socket.sockets.items
    c.push.new.self.items c.new-socket.result c.in-Some.socket c.loop-socket.invariant
    (ap (slice_get (sockets_of c.args.serving.now)) (sym c.len.ensures) ∙ (sym c.socket.ensures ∙ c.in-Some.is))
    c.new-socket.ensures.closed (c.new-socket.ensures.number ∙ c.len-number.ensures) c.new-socket.ensures.callers
    (rw (sym c.in_ok-ok.ensures.variant) at c.push.ensures.items)
    (rw (sym c.in_ok-ok.ensures.variant) at c.push.ensures.len)

pub loop-socket-smaller : goal.loop-socket-smaller
loop-socket-smaller g c =
    fewer_left c.args.serving.now (vec_len c.loop-socket.sockets) (vec_len c.push.new.self) c.in-Some.socket
    (ap (slice_get (sockets_of c.args.serving.now)) (sym c.len.ensures) ∙ (sym c.socket.ensures ∙ c.in-Some.is))
    (rw (sym c.in_ok-ok.ensures.variant) at c.push.ensures.len)

pub returns : goal.returns
returns g c =
    common_made c.args.serving.now (vec_len c.loop-socket.sockets) c.loop-socket.sockets.items c.loop-socket.invariant
    (ap (slice_get (sockets_of c.args.serving.now)) (sym c.len.ensures) ∙ (sym c.socket.ensures ∙ c.in_default.is))
