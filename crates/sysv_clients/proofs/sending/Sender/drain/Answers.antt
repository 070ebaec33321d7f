use Rattle.std.proofs.Common.{arith}
use Rattle.std.proofs.KnownBytes.{Appends-nil}
use Rattle.sysv_clients.specs.Window.{lost}
use Rattle.sysv_clients.proofs.SendLemmas.{cuts_sends, drains, on_way}
use Rattle.sysv_clients.proofs.WindowLemmas.{hears_none, keeps_appends, loses_flush}
use Rattle.sysv_clients.proofs.sending.Sender.drain.Goals as goal

pub returns-then-window-keep-clause-hears : goal.returns-then-window-keep-clause-hears
returns-then-window-keep-clause-hears g c = λ waiting snds waits.
    hears_none waiting _ c.args.window.now snds waits

pub returns-then-window-keep-clause-writes : goal.returns-then-window-keep-clause-writes
returns-then-window-keep-clause-writes g c = Appends-nil _

pub returns-then-is_err-clause-drains : goal.returns-then-is_err-clause-drains
returns-then-is_err-clause-drains g c = λ sending left taken fed unsent so_far unfed.
    rw c.lost.ensures
    (cuts_sends sending left _ _ taken _ _ fed unsent c.args.window.now (lost c.args.window.now) so_far
    (loses_flush so_far.waiting _ c.args.window.now so_far.waits (omega (arith, c.if-window-keep.false)))
    (keeps_appends _ _ c.flush.ensures.bytes) unfed)

pub returns-then-is_err-clause-hears : goal.returns-then-is_err-clause-hears
returns-then-is_err-clause-hears g c = λ waiting snds waits.
    rw c.lost.ensures
    (loses_flush waiting _ c.args.window.now waits (omega (arith, c.if-window-keep.false)))

pub returns-then-is_err-clause-writes : goal.returns-then-is_err-clause-writes
returns-then-is_err-clause-writes g c = keeps_appends _ _ c.flush.ensures.bytes

pub returns-clause-drains : goal.returns-clause-drains
returns-clause-drains g c = λ sending left taken fed unsent so_far.
    drains sending c.hear_until.result c.args.keep left _ _ taken _ _ fed unsent c.args.window.now
    c.hear_until.new.window so_far
    (c.hear_until.ensures.hears so_far.waiting (on_way sending left _ taken _ fed unsent c.args.window.now so_far)
    so_far.waits)
    (keeps_appends _ _ c.flush.ensures.bytes) c.hear_until.ensures.few

pub returns-clause-writes : goal.returns-clause-writes
returns-clause-writes g c = keeps_appends _ _ c.flush.ensures.bytes
