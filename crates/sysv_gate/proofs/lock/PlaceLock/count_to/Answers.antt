use Rattle.sysv_gate.proofs.LearnedInCall.{read_again, read_more}
use Rattle.sysv_gate.proofs.PassUnchanged.{same_trans}
use Rattle.sysv_gate.proofs.lock.PlaceLock.count_to.Goals as goal

pub loop-preserved : goal.loop-preserved
loop-preserved g c = record {
  same = same_trans _ _ _ _ c.loop.invariant.same c.count-value-in-loop.ensures.same;
  read = read_again _ _ _ _ _ _ _ (read_more _ _ _ _ _ _ c.loop.invariant.read) c.count-value-in-loop.ensures.read;
}
