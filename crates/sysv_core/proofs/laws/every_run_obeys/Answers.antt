use Rattle.sysv_core.proofs.WorldsObey.{Laws, run_obeys}
use Rattle.sysv_core.proofs.laws.every_run_obeys.Goals as goal

pub returns : goal.returns
returns c =
    let laws : Laws = record {
      queue = c.queue_law.ensures;
      registry = c.registry_law.ensures;
      pool = c.pool_law.ensures;
      for_good = c.removed_for_good.ensures.for_good;
      asked = c.each_op_is_asked_for.ensures;
      right = c.each_answer_is_right.ensures;
      one_effect = c.each_has_one_effect.ensures;
      told = c.after_removal.ensures;
    } in
    let stay = c.stays_right.ensures in
    run_obeys c.each_world_is_sound.ensures.stays c.legal_turns.ensures.none laws stay.no_match stay.full
    stay.full_for_look stay.counts c.waits_for_its_refusal.ensures c.each_holds_what_it_was_asked.ensures
