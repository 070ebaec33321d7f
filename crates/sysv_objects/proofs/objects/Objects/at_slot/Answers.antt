use Rattle.std.proofs.Common.{◌^◌, ap, arith}
use Rattle.sysv_objects.specs.SlotTurns.{slot_asked}
use Rattle.sysv_objects.specs.Objects.{Objects}
use Rattle.sysv_objects.proofs.Placed.{turned, stand_still, left, beside, low}
use Rattle.sysv_objects.proofs.objects.Objects.at_slot.Goals as goal

pub make-requires-clause-arrived : goal.make-requires-clause-arrived
make-requires-clause-arrived c = λ may.
    let up = low c.self.inside.slots.items c.self.inside.registry c.self.inside.pool c.args.self.now c.self.view_is
    c.self.invariant c.slot-place.result (slot_asked c.args.call) c.slot-place.ensures.number
    (c.slot-place.ensures.within c.requires.there) c.index_mut.result.now c.index_mut.ensures.value (2 ^ 62)
    (c.requires.counts may) in
    omega (arith, up.0)

pub make-requires-clause-freed : goal.make-requires-clause-freed
make-requires-clause-freed c = λ may.
    let up = low c.self.inside.slots.items c.self.inside.registry c.self.inside.pool c.args.self.now c.self.view_is
    c.self.invariant c.slot-place.result (slot_asked c.args.call) c.slot-place.ensures.number
    (c.slot-place.ensures.within c.requires.there) c.index_mut.result.now c.index_mut.ensures.value (2 ^ 62)
    (c.requires.counts may) in
    omega (arith, up.1)

pub invariant_of-self : goal.invariant_of-self
invariant_of-self c = stand_still c.self.inside.slots.items c.self.inside.registry c.self.inside.pool c.args.self.now
    c.self.view_is c.self.invariant c.slot-place.result (slot_asked c.args.call) c.slot-place.ensures.number
    (c.slot-place.ensures.within c.requires.there) c.index_mut.result.now c.index_mut.ensures.value c.make.new.slot _ _
    c.make.ensures.turn

pub returns-clause-turn : goal.returns-clause-turn
returns-clause-turn c = (
  c.index_mut.result.now,
  turned c.self.inside.slots.items c.self.inside.registry c.self.inside.pool c.args.self.now c.self.view_is
      c.self.invariant c.slot-place.result (slot_asked c.args.call) c.slot-place.ensures.number
      (c.slot-place.ensures.within c.requires.there) c.index_mut.result.now c.index_mut.ensures.value c.make.new.slot _
      _ c.make.ensures.turn,
  c.make.ensures.fits,
)

pub returns-clause-leaves : goal.returns-clause-leaves
returns-clause-leaves c = λ leaves.
    left c.self.inside.slots.items c.self.inside.registry c.self.inside.pool c.args.self.now c.self.view_is
    c.self.invariant c.slot-place.result (slot_asked c.args.call) c.slot-place.ensures.number
    (c.slot-place.ensures.within c.requires.there) c.index_mut.result.now c.index_mut.ensures.value c.make.new.slot
    (c.make.ensures.leaves leaves)

pub returns-clause-others : goal.returns-clause-others
returns-clause-others c = (
  beside c.self.inside.slots.items c.self.inside.registry c.self.inside.pool c.args.self.now c.self.view_is
      c.self.invariant c.slot-place.result (slot_asked c.args.call) c.slot-place.ensures.number
      (c.slot-place.ensures.within c.requires.there) c.index_mut.result.now c.index_mut.ensures.value c.make.new.slot,
  ap (λ (o : Objects). o.registry) c.self.view_is,
  ap (λ (o : Objects). o.pool) c.self.view_is,
)
