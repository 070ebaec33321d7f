use Rattle.std.proofs.Common.{ℕ, ◌+◌, ◌<◌, ◌^◌, Option, Ok, ap, ◌∙◌, arith, rules, refl}
use Rattle.sysv_service.specs.Stopped.{begins}
use Rattle.sysv_service.proofs.SlotBySlot.{next_slot}
use Rattle.sysv_service.proofs.service.Service.stop_counting.Goals.{in-Ok-Some, in-Ok-None, in-Err}
use Rattle.sysv_service.proofs.service.Service.stop_counting.Goals as goal

pub loop-slot-init : goal.loop-slot-init
loop-slot-init g c = record {
  pass = c.requires;
  stops = record { run = begins; counted = refl };
  few = omega arith;
  small = omega arith;
}

pub loop-slot-preserved : goal.loop-slot-preserved
loop-slot-preserved g c =
    let old = c.loop-slot.invariant in
    let few = old.few in
    let small = old.small in
    let stops = next_slot c.args.pass.now c.loop-slot.slot c.loop-slot.removed c.loop-slot.worn c.loop-slot.messages
    c.loop-slot.pass old.stops c.stop_slot.result c.stop_slot.new.pass c.stop_slot.ensures.stopped in
    elim c.match-stop_slot.branch [
      | in-Ok-Some w ↦
          let fits : w.in-Ok-Some.count < 2 ^ 32 = search rules in
          let more = w.messages-is ∙ ap (λ n. c.loop-slot.messages + n) w.from-messages.ensures in
          record {
            pass = c.stop_slot.ensures.pass;
            stops = stops.0 w.in-Ok-Some.count
                (w.in-Ok-Some.is ∙ ap (λ (found : Option ℕ). Ok found) w.in-Ok-Some.field-0-is) _ _ _ w.removed-is
                w.worn-is more;
            few = omega (arith, few, w.removed-is);
            small = omega (arith, small, fits, more);
          }
      | in-Ok-None w ↦ record {
        pass = c.stop_slot.ensures.pass;
        stops = stops.1 (w.in-Ok-None.is ∙ ap (λ (found : Option ℕ). Ok found) w.in-Ok-None.field-0-is) _ _ _
            w.removed-is w.worn-is w.messages-is;
        few = omega (arith, few, w.removed-is);
        small = omega (arith, small, w.messages-is);
      }
      | in-Err w ↦ record {
        pass = c.stop_slot.ensures.pass;
        stops = stops.2 _ w.in-Err.is _ _ _ w.removed-is w.worn-is w.messages-is;
        few = omega (arith, few, w.removed-is);
        small = omega (arith, small, w.messages-is);
      }
    ]
