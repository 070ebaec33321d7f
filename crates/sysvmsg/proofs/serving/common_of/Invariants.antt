-- The first sockets are made.
use Rattle.std.proofs.Common.{◌-◌, length, take, vec_len}
use Rattle.sysv_options.specs.Sockets.{common_let_in, sockets_of}
use Rattle.sysvmsg.specs.Sockets.{AreSocketsFor}
use Rattle.sysvmsg.proofs.serving.common_of.Given as goal

abbrev pub invariant-loop-socket : goal.invariant-loop-socket
invariant-loop-socket g l = AreSocketsFor (take (vec_len l.sockets) (common_let_in l.fn.serving)) l.sockets.items

abbrev pub decreases-loop-socket : goal.decreases-loop-socket
decreases-loop-socket g l = length (sockets_of l.fn.serving) - vec_len l.sockets
