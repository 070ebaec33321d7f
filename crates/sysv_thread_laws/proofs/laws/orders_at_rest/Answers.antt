use Rattle.sysv_thread_laws.proofs.AtRestHoldsNone as rest
use Rattle.sysv_thread_laws.proofs.laws.orders_at_rest.Goals as goal

pub returns : goal.returns
returns c = rest.orders_at_rest c.every_order_is_a_run.ensures
