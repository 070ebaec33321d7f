use Rattle.std.proofs.Common.{◌∙◌}
use Rattle.sysv_keys.specs.Identifier.{slot_of_id}
use Rattle.sysv_objects.proofs.Placed.{its_slot, counted}
use Rattle.sysv_objects.proofs.objects.Objects.arrived.Goals as goal

pub returns : goal.returns
returns c = λ generation turns s.
    c.counts.ensures.arrived
    ∙ (counted c.self.inside.slots.items c.self.inside.registry c.self.inside.pool c.args.self.now c.self.view_is
    c.self.invariant c.slot_of_id-place.result (slot_of_id c.args.id)
    (its_slot _ c.args.id c.ranges.id c.slot_of_id-place.ensures.slot) c.slot_of_id-place.ensures.within
    c.index.result.now c.index.ensures generation turns s).0
