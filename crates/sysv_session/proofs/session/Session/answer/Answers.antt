-- A reply that cannot be written ends the session. It carries no message, so the tally is the same.
use Rattle.std.proofs.Common.{◌≡◌, ℕ, ap, sym, add-zero}
use Rattle.std.proofs.lemmas.Result.{err_from_is_err_and}
use Rattle.sysv_queue.specs.Tally.{Tallied}
use Rattle.sysv_session.specs.declared.handler.RequestOutcome.TheVariants.{Reply}
use Rattle.sysv_session.specs.Turn.{one_lost}
use Rattle.sysv_wire.specs.declared.reply.Reply.{Reply as Answer}
use Rattle.sysv_session.proofs.session.Session.answer.Goals as goal

none_lost : (reply : Answer) (tally : Tallied) → tally ≡ one_lost (Reply reply) tally
none_lost reply tally =
    ap (λ (n : ℕ). let t : Tallied = record { written = tally.written; lost = n } in t) (sym (add-zero tally.lost))

pub returns-in_err-send-in-Reply-clause-answers : goal.returns-in_err-send-in-Reply-clause-answers
returns-in_err-send-in-Reply-clause-answers g c =
    let p = err_from_is_err_and c.from_residual.result c.from_residual.ensures.1 in
    rw (c.in-Reply.is, p.1, p.2) (tt, c.in_err-send-in-Reply.ensures.err, none_lost c.in-Reply.reply _)
