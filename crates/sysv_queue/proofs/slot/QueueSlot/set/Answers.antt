use Rattle.std.proofs.Common.{◌≤◌, ◌≡◌, ◌⊎◌, inl, inr, rules, w32, FitsSigned}
use Rattle.std.proofs.lemmas.Int.{to_z-of_z}
use Rattle.std.proofs.lemmas.Result.{err_from_is_err_and}
use Rattle.sysv_model.specs.declared.attributes.Attributes.{Attributes}
use Rattle.sysv_queue.proofs.Control.{set_barred, set_above_most, set_raise, set_changes}
use Rattle.sysv_queue.proofs.slot.QueueSlot.set.Goals as goal
use Rattle.sysv_queue.proofs.slot.QueueSlot.set.Goals.{else-to-queue-via-then-to-queue+else-cred-ne0}
use Rattle.sysv_queue.proofs.slot.QueueSlot.set.Goals.{else-to-queue-via-else-to-queue}

pub returns-in_err-queue-clause-turn : goal.returns-in_err-queue-clause-turn
returns-in_err-queue-clause-turn c =
    let p = err_from_is_err_and c.from_residual.result c.from_residual.ensures.1 in
    let bars = rw (to_z-of_z w32 c.args.id c.ranges.id) at c.in_err-queue.ensures.barred in
    rw (p.1, p.2) (set_barred c.args.self.now c.args.id c.args.cred c.args.to c.args.now c.in_err-queue.field-0.0 bars)

pub returns-then-to-gt-MAX_QBYTES-clause-turn : goal.returns-then-to-gt-MAX_QBYTES-clause-turn
returns-then-to-gt-MAX_QBYTES-clause-turn c =
    let found = rw (to_z-of_z w32 c.args.id c.ranges.id) at c.in_ok-queue.ensures.controls in
    set_above_most c.args.self.now c.args.id c.args.cred c.args.to c.args.now found.1 found.2 c.if-to-gt-MAX_QBYTES.true

pub returns-then-cred-ne0-clause-turn : goal.returns-then-cred-ne0-clause-turn
returns-then-cred-ne0-clause-turn c =
    let found = rw (to_z-of_z w32 c.args.id c.ranges.id) at c.in_ok-queue.ensures.controls in
    set_raise c.args.self.now c.args.id c.args.cred c.args.to c.args.now c.in_ok-queue.queue found.0 found.1 found.2
    c.if-to-gt-MAX_QBYTES.false c.if-to-queue.true c.if-cred-ne0.true

pub returns-clause-turn : goal.returns-clause-turn
returns-clause-turn c =
    let queue : Attributes = c.in_ok-queue.queue in
    let id_fits : FitsSigned w32 queue.id = search rules in
    let key_fits : FitsSigned w32 queue.key = search rules in
    let found = rw (to_z-of_z w32 c.args.id c.ranges.id) at c.in_ok-queue.ensures.controls in
    let limit : (c.args.to.qbytes ≤ queue.qbytes) ⊎ (c.args.cred.uid ≡ 0) = elim c.else-to-queue.branch [
      | else-to-queue-via-then-to-queue+else-cred-ne0 w ↦ inr w.if-cred-ne0.false
      | else-to-queue-via-else-to-queue w ↦ inl w.if-to-queue.false
    ] in
    let turn = set_changes c.args.self.now c.args.id c.args.cred c.args.to c.args.now queue found.0 found.1 found.2
    c.if-to-gt-MAX_QBYTES.false limit in
    rw (c.change_to.ensures, to_z-of_z w32 queue.id id_fits, to_z-of_z w32 queue.key key_fits) turn
