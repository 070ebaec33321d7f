use Rattle.sysv_thread_laws.proofs.WorkedOrder as worked
use Rattle.sysv_thread_laws.proofs.laws.worked_order.Goals as goal

pub returns : goal.returns
returns c =
    worked.worked_order (c.legal_turns.ensures.none 0 128) c.legal_turns.ensures.more c.each_answer_is_right.ensures
    c.every_order_is_a_run.ensures
    c.orders_at_rest.ensures
