use Rattle.sysv_core.proofs.BlocksConserved.{BlockLaws}
use Rattle.sysv_core.proofs.WorldsObey.{Laws}
use Rattle.sysv_thread_laws.proofs.ThreadsObey.{run_keeps}
use Rattle.sysv_thread_laws.proofs.StopEmpties.{stop_empties}
use Rattle.sysv_thread_laws.proofs.laws.every_stop_empties.Goals as goal

pub returns : goal.returns
returns c =
    let blocks : BlockLaws = record {
      kept = c.blocks_kept.ensures.turn;
      law = c.pool_law.ensures;
      step = c.each_holds_its_blocks.ensures.step;
    } in
    let laws : Laws = record {
      queue = c.queue_law.ensures;
      registry = c.registry_law.ensures;
      pool = c.pool_law.ensures;
      for_good = c.removed_for_good.ensures.for_good;
      asked = c.each_op_is_asked_for.ensures;
      right = c.each_answer_is_right.ensures;
      one_effect = c.each_has_one_effect.ensures;
      told = c.after_removal.ensures;
    } in
    stop_empties c.seen_histories.ensures c.every_hiring_obeys.ensures.obeys c.every_hiring_obeys.ensures.stops
    c.every_hiring_obeys.ensures.unmarked
    c.each_answer_is_right.ensures
    c.each_op_is_asked_for.ensures
    (λ o list responses w led.
    (run_keeps c.legal_turns.ensures.more blocks laws c.legal_turns.ensures.none o list responses w led).lifetime.facts)
