use Rattle.sysv_core.proofs.OneRun as once
use Rattle.sysv_core.proofs.laws.one_run.Goals as goal

pub returns : goal.returns
returns c = once.one_run c.one_legal_op.ensures.one c.each_world_is_sound.ensures.stays
