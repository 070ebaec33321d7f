use Rattle.sysv_thread_laws.proofs.OrderPoints.{each_point}
use Rattle.sysv_thread_laws.proofs.laws.each_point_parks_rightly.Goals as goal

pub returns : goal.returns
returns c = each_point c.every_order_is_a_run.ensures c.every_order_parks_rightly.ensures
