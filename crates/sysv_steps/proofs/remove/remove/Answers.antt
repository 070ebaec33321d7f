use Rattle.std.proofs.Common.{w32, to_z, of_z, refl, Ok, Err, IfOk, Result, ◌≡◌}
use Rattle.std.proofs.lemmas.Int.{to_z-of_z}
use Rattle.sysv_keys.specs.Identifier.{slot_of_id}
use Rattle.sysv_model.specs.declared.errno.Errno.{Errno}
use Rattle.sysv_model.specs.History.{Remove}
use Rattle.sysv_model.specs.Turn.{AtSlot}
use Rattle.sysv_queue.specs.Blocks.{blocks_of}
use Rattle.sysv_queue.specs.Replies.{remove_reply}
use Rattle.sysv_queue.specs.Slot.{Slot}
use Rattle.sysv_steps.specs.State.{AtRemove}
use Rattle.sysv_steps.specs.Seen.{remove_state}
use Rattle.sysv_objects.specs.SlotTurns.{FitsSlotCall}
use Rattle.sysv_objects.specs.declared.slot.SlotCall.TheVariants as called
use Rattle.sysv_objects.specs.declared.slot.SlotReply.TheVariants as told
use Rattle.sysv_steps.specs.Stepping.{no_moment}
use Rattle.sysv_steps.proofs.StepFromReply.{stepped}
use Rattle.sysv_steps.specs.Telling.{slot_told}
use Rattle.sysv_steps.proofs.remove.remove.Goals as goal

-- The discarded messages were queued in the slot.
of_slot : (slot : Slot) (cred : _) (id : _) (done : Result _ Errno) →
    FitsSlotCall slot (called.Remove id cred) (told.Removed done) →
    IfOk done (λ discarded. discarded ≡ blocks_of slot.messages)
of_slot slot cred id (Ok discarded) fits = fits
of_slot slot cred id (Err why) fits = tt

pub returns-in-Ok-Slot-Removed-clause-steps : goal.returns-in-Ok-Slot-Removed-clause-steps
returns-in-Ok-Slot-Removed-clause-steps g c =
    let id = c.ranges.id in
    let w = c.in-Ok-Slot-Removed in
    let told =
    slot_told g.T.Turns.takes c.args.at.now c.make.new.at (called.Remove (to_z w32 (of_z w32 c.args.id)) c.args.cred)
    w.field-0 w.field-0-0 _ w.field-0-is w.field-0-0-is w.ensures.ok in
    let done = c.in-Ok-Slot-Removed.done in
    let on =
    c.removed.ensures told.0.messages (of_slot told.0 c.args.cred (to_z w32 (of_z w32 c.args.id)) done told.2) in
    let goes = simp to_z-of_z at on in
    let made = told.1 in
    let turn = simp to_z-of_z at made in
    stepped g.T.Turns.takes g.T.Turns.misses no_moment (AtRemove c.args.cred c.args.id) c.args.at.now
    (remove_state c.removed.result) c.make.new.at
    (AtSlot (slot_of_id c.args.id) (Remove c.args.id c.args.cred) (remove_reply told.0.messages done)) 0
    (λ e. absurd cc) refl goes turn refl
