use Rattle.sysv_core.proofs.BlocksConserved.{BlockLaws}
use Rattle.sysv_core.proofs.WorldsObey.{Laws}
use Rattle.sysv_thread_laws.proofs.ThreadsObey.{run_keeps}
use Rattle.sysv_thread_laws.proofs.ParkedOnThreads.{StaysRight, parked_on_threads}
use Rattle.sysv_thread_laws.proofs.laws.every_threaded_run_parks_rightly.Goals as goal

pub returns : goal.returns
returns c =
    let blocks : BlockLaws = record {
      kept = c.blocks_kept.ensures.turn;
      law = c.pool_law.ensures;
      step = c.each_holds_its_blocks.ensures.step;
    } in
    let laws : Laws = record {
      queue = c.queue_law.ensures;
      registry = c.registry_law.ensures;
      pool = c.pool_law.ensures;
      for_good = c.removed_for_good.ensures.for_good;
      asked = c.each_op_is_asked_for.ensures;
      right = c.each_answer_is_right.ensures;
      one_effect = c.each_has_one_effect.ensures;
      told = c.after_removal.ensures;
    } in
    let stays : StaysRight = record {
      laws = c.registry_law.ensures;
      no_match = c.stays_right.ensures.no_match;
      full = c.stays_right.ensures.full;
      full_for_look = c.stays_right.ensures.full_for_look;
      counts = c.stays_right.ensures.counts;
      refused = c.waits_for_its_refusal.ensures;
      holds = c.each_holds_what_it_was_asked.ensures;
    } in
    parked_on_threads stays c.every_threaded_run_obeys.ensures
    (run_keeps c.legal_turns.ensures.more blocks laws c.legal_turns.ensures.none)
