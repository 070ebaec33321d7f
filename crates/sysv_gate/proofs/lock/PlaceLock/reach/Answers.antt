use Rattle.std.proofs.Common.{rules}
use Rattle.sysv_gate.proofs.LearnedInCall.{turn_later, saw_later, saw_nothing}
use Rattle.sysv_gate.proofs.PassUnchanged.{only_self, same_trans}
use Rattle.sysv_gate.proofs.lock.PlaceLock.reach.Goals as goal

pub loop-init : goal.loop-init
loop-init g c = record {
  same = (search rules, search rules, only_self _ _ c.requires.at.3 c.requires.at.4);
  waits = saw_nothing _ c.requires.waits.0;
  goes_on = search rules;
}

pub loop-preserved : goal.loop-preserved
loop-preserved g c =
    let spun = saw_later _ _ _ c.loop.invariant.waits (c.spin.ensures.waits c.if-spin-ticket.false) in record {
      same =
          same_trans _ _ _ _ c.loop.invariant.same (same_trans _ _ _ _ c.spin.ensures.same c.doze_until.ensures.same);
      waits = saw_later _ _ _ spun (c.doze_until.ensures.waits c.if-doze_until-ticket.false);
      goes_on = search rules;
    }

pub returns-then-spin-ticket-clause-same : goal.returns-then-spin-ticket-clause-same
returns-then-spin-ticket-clause-same g c = same_trans _ _ _ _ c.loop.invariant.same c.spin.ensures.same

pub returns-then-spin-ticket-clause-turn : goal.returns-then-spin-ticket-clause-turn
returns-then-spin-ticket-clause-turn g c =
    turn_later _ _ _ _ _ _ _ c.loop.invariant.waits (c.spin.ensures.turn c.if-spin-ticket.true)

pub returns-then-doze_until-ticket-clause-same : goal.returns-then-doze_until-ticket-clause-same
returns-then-doze_until-ticket-clause-same g c =
    same_trans _ _ _ _ c.loop.invariant.same (same_trans _ _ _ _ c.spin.ensures.same c.doze_until.ensures.same)

pub returns-then-doze_until-ticket-clause-turn : goal.returns-then-doze_until-ticket-clause-turn
returns-then-doze_until-ticket-clause-turn g c =
    let spun = saw_later _ _ _ c.loop.invariant.waits (c.spin.ensures.waits c.if-spin-ticket.false) in
    turn_later _ _ _ _ _ _ _ spun (c.doze_until.ensures.turn c.if-doze_until-ticket.true)
