use Rattle.sysv_thread_laws.proofs.PoolIsWhole.{none_held_at_all, every_pool, every_hired_pool}
use Rattle.sysv_thread_laws.proofs.laws.every_pool_is_whole.Goals as goal

pub returns-clause-none_held : goal.returns-clause-none_held
returns-clause-none_held c = none_held_at_all

pub returns-clause-whole : goal.returns-clause-whole
returns-clause-whole c = every_pool c.seen_histories.ensures c.every_joined_service_is_a_run.ensures.run
    c.every_joined_service_is_a_run.ensures.whole

pub returns-clause-hired : goal.returns-clause-hired
returns-clause-hired c = every_hired_pool (every_pool c.seen_histories.ensures
    c.every_joined_service_is_a_run.ensures.run c.every_joined_service_is_a_run.ensures.whole)
