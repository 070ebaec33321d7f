use Rattle.std.proofs.Common.{to_z, of_z, refl, rules, ap, subst, ◌∙◌, Ok, w32, w64, FitsSigned}
use Rattle.std.proofs.lemmas.Int.{to_z-of_z}
use Rattle.sysv_keys.specs.Identifier.{slot_of_id}
use Rattle.sysv_model.specs.History.{Place, Accepted}
use Rattle.sysv_model.specs.Turn.{AtSlot}
use Rattle.sysv_pool.specs.Chain.{Chained}
use Rattle.sysv_steps.specs.State.{AtPlace}
use Rattle.sysv_steps.specs.Seen.{send_state, sending}
use Rattle.sysv_objects.specs.declared.slot.SlotCall.TheVariants as called
use Rattle.sysv_objects.specs.declared.slot.SlotReply.TheVariants as reply
use Rattle.sysv_steps.proofs.StepFromReply.{stepped}
use Rattle.sysv_steps.specs.Telling.{slot_told}
use Rattle.sysv_steps.proofs.send.place.Goals as goal

pub returns-in-Ok-Slot-Placed-Ok-clause-steps : goal.returns-in-Ok-Slot-Placed-Ok-clause-steps
returns-in-Ok-Slot-Placed-Ok-clause-steps g c =
    let may = g.C.Clock.may c.args.clock.now in
    let send = sending c.args.send c.args.text.now in
    let number = c.in-Ok-Slot-Placed-Ok._number in
    let filled = ap (λ (x : Chained). x.bytes) c.of.ensures in
    let w = c.in-Ok-Slot-Placed-Ok in
    let r = c.args.send in
    let id : FitsSigned w32 r.id = search rules in
    let mtype : FitsSigned w64 r.mtype = search rules in
    let so = slot_told g.T.Turns.takes c.args.at.now c.make.new.at
    (called.Place (to_z w32 (of_z w32 r.id)) r.cred (to_z w64 (of_z w64 r.mtype)) c.of.result c.now.result) w.field-0
    w.field-0-0 (reply.Placed (Ok number)) w.field-0-is (w.field-0-0-is ∙ ap reply.Placed w.field-0-0-0-is)
    w.ensures.ok in
    let made_so = so.1 in
    let told = simp to_z-of_z at made_so in
    let made = subst (λ bytes.
    g.T.Turns.takes c.args.at.now
    (AtSlot (slot_of_id c.args.send.id) (Place c.args.send.id c.args.send.cred c.args.send.mtype bytes c.now.result)
    (Accepted number)) c.make.new.at) filled told in
    stepped g.T.Turns.takes g.T.Turns.misses may (AtPlace send c.args.chain.blocks) c.args.at.now
    (send_state c.placed.result c.args.text.now) c.make.new.at
    (AtSlot (slot_of_id c.args.send.id)
    (Place c.args.send.id c.args.send.cred c.args.send.mtype c.args.text.now c.now.result) (Accepted number))
    c.now.result (λ e. c.now.ensures) refl
    (c.placed.ensures.next send c.args.chain.blocks number c.args.text.now) made refl
