use Rattle.std.proofs.Common.{◌+◌, [], sym, subst, arith}
use Rattle.sysv_queue.specs.Represents.{Represents}
use Rattle.sysv_service.specs.Fresh.{AreFreshUpTo}
use Rattle.sysv_service.specs.Gated.{IsSlot, slot_in}
use Rattle.sysv_service.proofs.FreshObjects.{fresh_snoc}
use Rattle.sysv_service.proofs.opening.fresh_objects.Goals as goal

pub loop-preserved : goal.loop-preserved
loop-preserved c =
    let object = c.of-in-loop.result in
    let is = subst IsSlot (sym c.of-in-loop.ensures) tt in
    let stands = subst (λ o. Represents [] (slot_in o)) (sym c.of-in-loop.ensures) c.in-Ok-open-2.ensures in
    record {
      fresh = subst (AreFreshUpTo (c.loop.counter + 1) c.args.generation c.args.blocks)
          (sym c.push_reserved-in-loop.ensures.items)
          (fresh_snoc c.loop.counter c.args.generation c.args.blocks c.loop.objects.items object c.loop.invariant.fresh
          is stands);
      room = omega (arith, c.push_reserved-in-loop.ensures.capacity, c.loop.invariant.room);
    }
