use Rattle.sysv_script.proofs.OneText as text
use Rattle.sysv_script.proofs.laws.one_text.Goals as goal

pub returns : goal.returns
returns c =
    text.one_text c.one_split.ensures c.one_saying.ensures c.one_step.ensures.step c.one_step.ensures.preset
    c.each_world_is_sound.ensures.stays c.each_world_is_sound.ensures.opens
