use Rattle.std.proofs.Common.{rules}
use Rattle.sysv_gate.proofs.LearnedInCall.{read_again, read_more, read_nothing, more_again, waited_later}
use Rattle.sysv_gate.proofs.PassUnchanged.{only_self, same_trans}
use Rattle.sysv_gate.proofs.lock.PlaceLock.await_count.Goals as goal

pub loop-init : goal.loop-init
loop-init g c = record {
  same = (search rules, search rules, only_self _ _ c.requires.at.3 c.requires.at.4);
  more = read_nothing _ _ c.requires.idle.0;
  goes_on = search rules;
}

pub returns-then-value-goal-clause-same : goal.returns-then-value-goal-clause-same
returns-then-value-goal-clause-same g c = same_trans _ _ _ _ c.loop.invariant.same c.count_to-value.ensures.same

pub returns-then-value-goal-clause-waited : goal.returns-then-value-goal-clause-waited
returns-then-value-goal-clause-waited g c =
    (c.if-value-goal.true, read_again _ _ _ _ _ _ _ c.loop.invariant.more c.count_to-value.ensures.read)

pub returns-in-Some-doze-clause-same : goal.returns-in-Some-doze-clause-same
returns-in-Some-doze-clause-same g c =
    same_trans _ _ _ _ c.loop.invariant.same (same_trans _ _ _ _ c.count_to-value.ensures.same c.doze.ensures.same)

pub returns-in-Some-doze-clause-waited : goal.returns-in-Some-doze-clause-waited
returns-in-Some-doze-clause-waited g c = waited_later _ _ _ _ _ _ _ _
    (more_again _ _ _ _ c.loop.invariant.more (read_more _ _ _ _ _ _ c.count_to-value.ensures.read))
    c.in-Some-doze.ensures.over

pub loop-preserved : goal.loop-preserved
loop-preserved g c = record {
  same =
      same_trans _ _ _ _ c.loop.invariant.same (same_trans _ _ _ _ c.count_to-value.ensures.same c.doze.ensures.same);
  more = more_again _ _ _ _ c.loop.invariant.more
      (more_again _ _ _ _ (read_more _ _ _ _ _ _ c.count_to-value.ensures.read) c.in_default.ensures.goes_on);
  goes_on = search rules;
}
