use Rattle.sysv_service.proofs.seat_laws.seen_histories_obey.Goals as goal

pub returns : goal.returns
returns c = record {
  slots = λ seat opened legal. c.queue_law.ensures _ (c.seen_histories.ensures.slots seat opened legal).legal;
  registry = λ generation seat opened legal.
      c.registry_law.ensures generation _ (c.seen_histories.ensures.registry generation seat opened legal).legal;
  pool = λ seat opened legal. c.pool_law.ensures _ _ (c.seen_histories.ensures.pool seat opened legal).legal;
}
