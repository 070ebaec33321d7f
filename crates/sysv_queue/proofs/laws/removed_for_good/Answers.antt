use Rattle.sysv_queue.proofs.ForGood as good
use Rattle.sysv_queue.proofs.laws.removed_for_good.Goals as goal

pub returns : goal.returns
returns c = record {
  told = good.told_not_live c.one_legal_reply.ensures.one;
  found = good.found_live c.one_legal_reply.ensures.one;
  found_not = good.found_not_live;
  lives = good.lives_till_removed;
  for_good = good.removed_for_good c.one_legal_reply.ensures.one;
}
