use Rattle.std.proofs.Common.{arith, refl}
use Rattle.sysv_clients.proofs.SendLemmas.{loses_write, sends_more}
use Rattle.sysv_clients.proofs.sending.Sender.send.Goals as goal

pub returns-in-Ok-clause-sends : goal.returns-in-Ok-clause-sends
returns-in-Ok-clause-sends g c = λ sending left rest taken fed unsent unfed so_far next room. (
  sends_more sending (record { ask = c.args.ask; text = c.args.self.now.text }) left rest taken _ _ fed unsent unfed
      c.args.window.now so_far next room c.in-Ok.ensures.ok,
  omega arith,
  refl,
)

pub returns-in-Err-clause-sends : goal.returns-in-Err-clause-sends
returns-in-Err-clause-sends g c = λ sending left rest taken fed unsent unfed so_far next room unread.
    rw c.lost.ensures
    (loses_write sending (record { ask = c.args.ask; text = c.args.self.now.text }) left rest taken _ _ fed unsent
    unfed c.args.window.now so_far next room c.in-Err.ensures.err unread)

pub returns-in-Ok-clause-puts : goal.returns-in-Ok-clause-puts
returns-in-Ok-clause-puts g c = (c.in-Ok.ensures.ok, refl)

pub returns-in-Err-clause-puts : goal.returns-in-Err-clause-puts
returns-in-Err-clause-puts g c = (c.in-Err.ensures.err, c.lost.ensures)
