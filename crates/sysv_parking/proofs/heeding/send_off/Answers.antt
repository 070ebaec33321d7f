-- The envelope is passed on.
use Rattle.std.proofs.Common.{inr, subst, sym}
use Rattle.sysv_parking.specs.Agenda.{Agenda, Heeded}
use Rattle.sysv_parking.proofs.Working.{heeds_none}
use Rattle.sysv_parking.proofs.heeding.send_off.Goals as goal

pub returns-else-first-number-clause-heeds : goal.returns-else-first-number-clause-heeds
returns-else-first-number-clause-heeds g c = record {
  heeded = subst (λ (agenda : Agenda). Heeded g.C.Calls.looked g.C.Calls.had g.C.Calls.sent g.C.Tells.told
      (g.C.Tells.agenda c.args.calls.now) agenda) (sym c.turn_of_others-turn.ensures.same) (heeds_none _);
  one = inr (inr (inr (λ worker low is. inr (c.pass_on.ensures worker low is))));
}
