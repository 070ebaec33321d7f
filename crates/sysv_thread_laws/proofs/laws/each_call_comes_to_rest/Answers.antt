use Rattle.sysv_thread_laws.proofs.ComesToRest.{comes_to_rest}
use Rattle.sysv_thread_laws.proofs.laws.each_call_comes_to_rest.Goals as goal

pub returns : goal.returns
returns c = comes_to_rest c.each_world_is_sound.ensures.opens c.each_world_is_sound.ensures.stays
    c.some_step.ensures.step
