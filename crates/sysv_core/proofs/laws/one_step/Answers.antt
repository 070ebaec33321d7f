use Rattle.sysv_core.proofs.OneRun as once
use Rattle.sysv_core.proofs.laws.one_step.Goals as goal

pub returns : goal.returns
returns c = record {
  step = once.one_step c.one_legal_op.ensures.one c.each_world_is_sound.ensures.stays;
  preset = once.one_preset;
}
