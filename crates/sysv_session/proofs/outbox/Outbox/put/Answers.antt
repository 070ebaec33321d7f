use Rattle.sysv_session.proofs.LayoutLemmas.{in_order_le, put_order, put_view}
use Rattle.sysv_session.proofs.outbox.Outbox.put.Goals as goal

pub invariant_of-self : goal.invariant_of-self
invariant_of-self c =
    put_order c.self.inside.taken c.self.inside.marks.items c.self.inside.bytes.items c.append.new.bytes.items _
    c.append.result c.append.ensures.ok c.append.ensures.err c.self.invariant

pub returns-clause-ok : goal.returns-clause-ok
returns-clause-ok c =
    put_view c.self.inside.taken c.self.inside.marks.items c.self.inside.bytes.items c.append.new.bytes.items _
    c.append.result _ c.append.ensures.ok (in_order_le _ _ c.self.inside.marks.items c.self.invariant) c.self.view_is
