use Rattle.std.proofs.Common.{refl}
use Rattle.sysv_gate.proofs.table.close.close_place.Goals as goal

pub returns-then-served-next-clause-read : goal.returns-then-served-next-clause-read
returns-then-served-next-clause-read g c = record {
  served = c.word-served.result;
  next = c.word-next.result;
  spot = c.take.result;
  at_served = c.word-served.ensures;
  at_next = c.word-next.ensures;
  at_spot = c.take.ensures.value;
  turns = refl;
  ticket = refl;
  whole = λ all. absurd (c.if-served-next.true all);
  due = λ more. refl;
}

pub returns-clause-read : goal.returns-clause-read
returns-clause-read g c = record {
  served = c.word-served.result;
  next = c.word-next.result;
  spot = c.take.result;
  at_served = c.word-served.ensures;
  at_next = c.word-next.ensures;
  at_spot = c.take.ensures.value;
  turns = refl;
  ticket = refl;
  whole = λ all. (c.object_in-left.ensures, refl);
  due = λ more. absurd (more c.if-served-next.false);
}
