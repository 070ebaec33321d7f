use Rattle.std.proofs.Common.{◌≡◌, ap, ◌∙◌, w32}
use Rattle.std.proofs.lemmas.Int.{to_z-of_z}
use Rattle.sysv_queue.specs.Slot.{Slot}
use Rattle.sysv_queue.proofs.Turns.{quiet_take_gone, quiet_take_denied}
use Rattle.sysv_queue.proofs.Stands.{turn_quiet}
use Rattle.sysv_queue.proofs.Receives.{receives_none, finds_too_long, receives}
use Rattle.sysv_queue.proofs.slot.QueueSlot.take_counted.Goals as goal
use Rattle.sysv_queue.proofs.slot.QueueSlot.take_counted.Goals.{in-Ok-release, in-Err-NoneQualifies, in-Err-TooLong}

pub returns-in-Err-Gone-clause-turn : goal.returns-in-Err-Gone-clause-turn
returns-in-Err-Gone-clause-turn g c =
    let gone = rw (to_z-of_z w32 c.args.id c.ranges.id, c.in-Err-Gone.field-0-is) at c.in-Err-Gone.ensures.barred in
    turn_quiet _ _ _ (quiet_take_gone c.args.id c.args.cred c.args.sel c.args.size c.args.noerror c.args.now) gone

pub returns-in-Err-Denied-clause-turn : goal.returns-in-Err-Denied-clause-turn
returns-in-Err-Denied-clause-turn g c =
    let denied =
    rw (to_z-of_z w32 c.args.id c.ranges.id, c.in-Err-Denied.field-0-is) at c.in-Err-Denied.ensures.barred in
    turn_quiet _ _ _ (quiet_take_denied c.args.id c.args.cred c.args.sel c.args.size c.args.noerror c.args.now) denied

pub returns-clause-turn : goal.returns-clause-turn
returns-clause-turn g c =
    let found = rw (to_z-of_z w32 c.args.id c.ranges.id) at c.in-Ok.ensures.enters in
    let most = c.most_taken.ensures in
    elim c.match-release.branch [
      | in-Ok-release w ↦
          rw w.result-is
          (receives c.args.self.now c.args.id c.args.cred c.args.sel c.args.size c.most_taken.result c.args.noerror
          c.args.now found.1 found.2 most.whole most.cut
          w.in-Ok-release.taken c.release.new.self w.in-Ok-release.ensures.taken w.in-Ok-release.ensures.after)
      | in-Err-NoneQualifies w ↦
          let same : c.release.new.self ≡ c.args.self.now = w.in-Err-NoneQualifies.ensures.unchanged in
          let none = rw w.in-Err-NoneQualifies.field-0-is at w.in-Err-NoneQualifies.ensures.refused in
          rw (w.result-is, same)
          (receives_none c.args.self.now c.args.id c.args.cred c.args.sel c.args.size c.most_taken.result c.args.noerror
          c.args.now found.1 found.2 most.whole most.cut
          c.self.inside.arrived (ap (λ (s : Slot). s.arrived) (c.self.view_is ∙ same)) none)
      | in-Err-TooLong w ↦
          let same : c.release.new.self ≡ c.args.self.now = w.in-Err-TooLong.ensures.unchanged in
          let long = rw w.in-Err-TooLong.field-0-is at w.in-Err-TooLong.ensures.refused in
          rw (w.result-is, same)
          (finds_too_long c.args.self.now c.args.id c.args.cred c.args.sel c.args.size c.most_taken.result
          c.args.noerror c.args.now found.1 found.2 most.whole most.cut long)
    ]
