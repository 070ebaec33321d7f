use Rattle.std.proofs.Common.{arith}
use Rattle.sysv_session.proofs.LayoutLemmas.{in_order_le}
use Rattle.sysv_session.proofs.outbox.Outbox.unsent.Goals as goal

pub slice_bounds-result-count : goal.slice_bounds-result-count
slice_bounds-result-count c =
    omega (arith, in_order_le _ _ c.self.inside.marks.items c.self.invariant)

pub slice_bounds-result-start : goal.slice_bounds-result-start
slice_bounds-result-start c =
    omega (arith, in_order_le _ _ c.self.inside.marks.items c.self.invariant)
