use Rattle.std.proofs.Common.{w32, FitsSigned, to_z, of_z, refl, sym, ap, subst, rules, ◌∙◌, Ok, Err}
use Rattle.std.proofs.lemmas.Int.{to_z-of_z}
use Rattle.sysv_keys.specs.Identifier.{slot_of_id}
use Rattle.sysv_model.specs.History.{Take, Taken}
use Rattle.sysv_model.specs.Turn.{AtSlot}
use Rattle.sysv_pool.specs.Chain.{Chained}
use Rattle.sysv_queue.specs.Replies.{untaken_reply}
use Rattle.sysv_steps.specs.declared.receive.ReceiveStep.TheVariants as step
use Rattle.sysv_steps.specs.State.{AtTake}
use Rattle.sysv_steps.specs.Seen.{receive_state, receiving}
use Rattle.sysv_objects.specs.declared.slot.SlotCall.TheVariants as called
use Rattle.sysv_objects.specs.declared.slot.SlotReply.TheVariants as reply
use Rattle.sysv_steps.specs.Giving.{HasWhatItGives, nothing_is_sized}
use Rattle.sysv_steps.proofs.StepFromReply.{stepped}
use Rattle.sysv_steps.specs.Telling.{slot_told}
use Rattle.sysv_steps.proofs.ReceiveGivesTaken.{took, gives_nothing, untaken_gives_nothing}
use Rattle.sysv_steps.proofs.receive.take.Goals as goal

pub returns-in-Ok-Slot-Taken-Ok-clause-steps : goal.returns-in-Ok-Slot-Taken-Ok-clause-steps
returns-in-Ok-Slot-Taken-Ok-clause-steps g c = λ kept.
    let may = g.C.Clock.may c.args.clock.now in
    let r = c.args.receive in
    let id : FitsSigned w32 r.id = search rules in
    let w = c.in-Ok-Slot-Taken-Ok in
    let taken = w.taken in
    let told = slot_told g.T.Turns.takes c.args.at.now c.make.new.at
    (called.Take (to_z w32 (of_z w32 r.id)) r.cred r.selector r.size r.noerror c.now.result) w.field-0 w.field-0-0
    (reply.Taken (Ok taken)) w.field-0-is (w.field-0-0-is ∙ ap reply.Taken w.field-0-0-0-is) w.ensures.ok in
    let made = told.1 in
    let turn = simp to_z-of_z at made in
    let out = c.finish-delivery.new.out in
    let gives = c.finish-delivery.ensures.given in
    let goes = c.given.ensures.next taken out gives (ap (λ (x : Chained). x.blocks) c.finish-delivery.ensures.chain) in
    took g.T.Turns.takes g.T.Turns.misses may (step.Take r) c.args.out.now c.args.at.now kept c.given.result out
    c.make.new.at kept
    (record {
      op = AtSlot (slot_of_id r.id) (Take r.id r.cred r.selector r.size r.noerror c.now.result) (Taken taken);
      now = c.now.result;
      moment = λ e. c.now.ensures;
      asked = refl;
      goes = goes;
      makes = record { turn = turn; held = search rules };
    })
    c.finish-delivery.result.0 (λ ops has. subst (λ s. HasWhatItGives s ops) (sym c.given.ensures.kept) has)
    (gives.mtype, gives.sender, gives.number)

pub returns-in-Ok-Slot-Taken-Err-clause-sized : goal.returns-in-Ok-Slot-Taken-Err-clause-sized
returns-in-Ok-Slot-Taken-Err-clause-sized g c =
    nothing_is_sized c.untaken.result c.args.out.now
    (untaken_gives_nothing (receiving c.args.receive) c.in-Ok-Slot-Taken-Err.why _ (c.untaken.ensures c.args.out.now))

pub returns-in-Ok-Slot-Taken-Err-clause-steps : goal.returns-in-Ok-Slot-Taken-Err-clause-steps
returns-in-Ok-Slot-Taken-Err-clause-steps g c = λ kept.
    let may = g.C.Clock.may c.args.clock.now in
    let r = c.args.receive in
    let id : FitsSigned w32 r.id = search rules in
    let w = c.in-Ok-Slot-Taken-Err in
    let told = slot_told g.T.Turns.takes c.args.at.now c.make.new.at
    (called.Take (to_z w32 (of_z w32 r.id)) r.cred r.selector r.size r.noerror c.now.result) w.field-0 w.field-0-0
    (reply.Taken (Err w.why)) w.field-0-is (w.field-0-0-is ∙ ap reply.Taken w.field-0-0-0-is) w.ensures.ok in
    let made = told.1 in
    let turn = simp to_z-of_z at made in
    let out = c.args.out.now in
    let goes = c.untaken.ensures out in
    gives_nothing g.T.Turns.takes g.T.Turns.misses may (step.Take r) out c.args.at.now kept c.untaken.result out
    c.make.new.at kept (untaken_gives_nothing (receiving r) c.in-Ok-Slot-Taken-Err.why _ goes)
    (stepped g.T.Turns.takes g.T.Turns.misses may (AtTake (receiving r)) c.args.at.now
    (receive_state c.untaken.result out)
    c.make.new.at
    (AtSlot (slot_of_id r.id) (Take r.id r.cred r.selector r.size r.noerror c.now.result)
    (untaken_reply c.in-Ok-Slot-Taken-Err.why)) c.now.result (λ e. c.now.ensures) refl goes turn refl kept)
