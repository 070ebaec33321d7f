use Rattle.std.proofs.Common.{arith}
use Rattle.sysv_keys.proofs.Turns.{only_at, count_small, kept_put}
use Rattle.sysv_keys.proofs.registry.Registry.put.Goals as goal

pub index_place-requires-clause-only : goal.index_place-requires-clause-only
index_place-requires-clause-only c =
    let may = rw (← c.self.view_is) at c.requires in
    rw (c.deref.ensures.value) (only_at c.self.inside.places.items _ _ c.self.invariant _ _ _ may)

pub overflow_add-self : goal.overflow_add-self
overflow_add-self c =
    let may = rw (← c.self.view_is) at c.requires in
    let small = count_small c.self.inside.places.items _ _ c.self.invariant _ _ _ may in omega arith

pub invariant_of-self : goal.invariant_of-self
invariant_of-self c =
    let may = rw (← c.self.view_is) at c.requires in
    kept_put c.self.inside.places.items _ _ c.self.invariant _ _ _ may _
    (rw (c.deref.ensures.value) at c.index_place.ensures)
