use Rattle.sysv_core.proofs.SomeRun as somewhere
use Rattle.sysv_core.proofs.laws.some_step.Goals as goal

pub returns : goal.returns
returns c = record {
  step = somewhere.some_step c.one_legal_op.ensures.some c.each_world_is_sound.ensures.stays c.unused_slots.ensures;
  preset =
      somewhere.some_preset c.one_legal_op.ensures.some c.each_world_is_sound.ensures.stays c.unused_slots.ensures;
}
