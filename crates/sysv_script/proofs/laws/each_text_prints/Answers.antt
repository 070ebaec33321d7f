use Rattle.sysv_script.proofs.EachText as text
use Rattle.sysv_script.proofs.laws.each_text_prints.Goals as goal

pub returns : goal.returns
returns c =
    text.each_text_prints c.one_split.ensures c.each_line_is_decided.ensures c.some_step.ensures.step
    c.some_step.ensures.preset c.each_world_is_sound.ensures.opens
