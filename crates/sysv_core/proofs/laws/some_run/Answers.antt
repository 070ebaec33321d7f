use Rattle.sysv_core.proofs.SomeRun as somewhere
use Rattle.sysv_core.proofs.laws.some_run.Goals as goal

pub returns : goal.returns
returns c = somewhere.some_run c.one_legal_op.ensures.some c.each_world_is_sound.ensures.stays c.unused_slots.ensures
    c.legal_turns.ensures.none
