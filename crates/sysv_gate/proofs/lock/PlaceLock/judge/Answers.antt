use Rattle.sysv_gate.proofs.PassUnchanged.{same_trans}
use Rattle.sysv_gate.proofs.lock.PlaceLock.judge.Goals as goal

pub returns-then-is_worn-clause-same : goal.returns-then-is_worn-clause-same
returns-then-is_worn-clause-same g c = same_trans _ _ _ _ c.count-value.ensures.same c.is_worn.ensures.same

pub returns-clause-same : goal.returns-clause-same
returns-clause-same g c = same_trans _ _ _ _ c.count-value.ensures.same c.is_worn.ensures.same
