use Rattle.sysv_core.proofs.BlocksConserved.{BlockLaws}
use Rattle.sysv_core.proofs.WorldsObey.{Laws}
use Rattle.sysv_thread_laws.proofs.ThreadsObey.{run_obeys}
use Rattle.sysv_thread_laws.proofs.laws.every_threaded_run_obeys.Goals as goal

pub returns : goal.returns
returns c =
    let blocks : BlockLaws = record {
      kept = c.blocks_kept.ensures.turn;
      law = c.pool_law.ensures;
      step = c.each_holds_its_blocks.ensures.step;
    } in
    let laws : Laws = record {
      queue = c.queue_law.ensures;
      registry = c.registry_law.ensures;
      pool = c.pool_law.ensures;
      for_good = c.removed_for_good.ensures.for_good;
      asked = c.each_op_is_asked_for.ensures;
      right = c.each_answer_is_right.ensures;
      one_effect = c.each_has_one_effect.ensures;
      told = c.after_removal.ensures;
    } in
    run_obeys c.legal_turns.ensures.more blocks laws c.legal_turns.ensures.none
