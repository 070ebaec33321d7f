use Rattle.std.proofs.Common.{Option, ap, subst, ◌∙◌, arith}
use Rattle.sysv_pool.specs.State.{State}
use Rattle.sysv_service.specs.Sharing.{AllClose}
use Rattle.sysv_service.specs.Closing.{free_in, with_chain, with_slots}
use Rattle.sysv_service.proofs.service.Service.close.Goals as goal

pub returns : goal.returns
returns c =
    let back = c.end_slots-waiting.ensures.pool in
    let pool = c.end_pool-pool.ensures.pool in
    let gone = c.put_back.ensures in
    let seats = c.into_seats-seats.ensures in
    let slots = ap (λ (p : Option State). with_slots p c.close-slots.result.slots.items) pool in
    let all = subst (λ s. AllClose s c.close-slots.result) seats.0 c.close-slots.ensures.closed in
    record {
      parts = c.close-slots.result;
      all = all;
      waiting = c.end_slots-waiting.ensures.waiting;
      held =
          let h = c.end_slots-waiting.ensures.held in
          let r = c.end_registry-registry_held.ensures in
          let p = c.end_pool-pool.ensures.held in
          omega (arith, h, r, p);
      free = c.end_blocks.ensures
          ∙ ap free_in
          (gone ∙ ap (λ (p : Option State). with_chain p c.into_seats-seats.result.1.blocks) (back ∙ slots)
          ∙ ap (with_chain (with_slots c.close-slots.result.pool.object c.close-slots.result.slots.items)) seats.1);
    }
