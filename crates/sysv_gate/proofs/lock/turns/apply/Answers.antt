use Rattle.sysv_gate.proofs.CountsStayAnnounced.{rises_by}
use Rattle.sysv_gate.proofs.lock.turns.apply.Goals as goal

pub returns : goal.returns
returns g c = record {
  move = (c.apply-reply.ensures.meaning, c.apply-reply.ensures.counts);
  last = record { call = c.of-asked.result; reply = c.of.result };
  beside = c.tell.ensures;
  asked = c.of-asked.ensures;
  answered = c.of.ensures;
  rises = rises_by _ _ c.counts-before.result c.counts-after.result c.counts-before.ensures.0 c.counts-before.ensures.1
      c.counts-after.ensures.0 c.counts-after.ensures.1 c.apply-reply.ensures.counts;
}
