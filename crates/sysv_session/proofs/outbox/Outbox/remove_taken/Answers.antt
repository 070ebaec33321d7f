use Rattle.std.proofs.Common.{◌∙◌, arith}
use Rattle.sysv_session.proofs.LayoutLemmas.{in_order_le, removed_order, removed_view}
use Rattle.sysv_session.proofs.outbox.Outbox.remove_taken.Goals as goal

pub overflow_sub-len : goal.overflow_sub-len
overflow_sub-len c = omega (arith, in_order_le _ _ c.self.inside.marks.items c.self.invariant, c.len.ensures)

pub remove_front-requires : goal.remove_front-requires
remove_front-requires c = in_order_le _ _ c.self.inside.marks.items c.self.invariant

pub invariant_of-self : goal.invariant_of-self
invariant_of-self c =
    removed_order c.self.inside.taken c.self.inside.bytes.items _ c.self.inside.marks.items _ c.remove_front.ensures
    c.bring_nearer.ensures c.self.invariant

pub invariant_of-self-else-is_empty : goal.invariant_of-self-else-is_empty
invariant_of-self-else-is_empty c =
    removed_order c.self.inside.taken c.self.inside.bytes.items _ c.self.inside.marks.items _ c.remove_front.ensures
    c.bring_nearer.ensures c.self.invariant

pub returns-then-is_empty : goal.returns-then-is_empty
returns-then-is_empty c =
    c.free_memory.ensures
    ∙ removed_view c.self.inside.taken c.self.inside.bytes.items _ c.self.inside.marks.items _ c.remove_front.ensures
    c.bring_nearer.ensures ∙ c.self.view_is

pub returns-else-is_empty : goal.returns-else-is_empty
returns-else-is_empty c =
    removed_view c.self.inside.taken c.self.inside.bytes.items _ c.self.inside.marks.items _ c.remove_front.ensures
    c.bring_nearer.ensures ∙ c.self.view_is
