use Rattle.std.proofs.Common.{rules, w32, FitsSigned}
use Rattle.std.proofs.lemmas.Int.{to_z-of_z}
use Rattle.sysv_model.specs.declared.attributes.Attributes.{Attributes}
use Rattle.sysv_queue.proofs.Turns.{quiet_stat}
use Rattle.sysv_queue.proofs.Stands.{turn_quiet}
use Rattle.sysv_queue.proofs.Shows.{stat_shown}
use Rattle.sysv_queue.proofs.slot.QueueSlot.stat.Goals as goal

pub returns-in-Err-Gone : goal.returns-in-Err-Gone
returns-in-Err-Gone c =
    let gone = rw (to_z-of_z w32 c.args.id c.ranges.id, c.in-Err-Gone.field-0-is) at c.in-Err-Gone.ensures.barred in
    record { turn = turn_quiet _ _ _ (quiet_stat c.args.id c.args.cred _) gone }

pub returns-in-Err-Denied : goal.returns-in-Err-Denied
returns-in-Err-Denied c =
    let denied =
    rw (to_z-of_z w32 c.args.id c.ranges.id, c.in-Err-Denied.field-0-is) at c.in-Err-Denied.ensures.barred in
    record { turn = turn_quiet _ _ _ (quiet_stat c.args.id c.args.cred _) denied }

pub returns : goal.returns
returns c =
    let queue : Attributes = c.in-Ok.queue in
    let key_fits : FitsSigned w32 queue.key = search rules in
    let found = rw (to_z-of_z w32 c.args.id c.ranges.id, ← c.self.view_is) at c.in-Ok.ensures.enters in
    let messages = c.self.inside.messages in
    record {
      turn =
          rw (to_z-of_z w32 queue.key key_fits, ← c.self.view_is)
          (turn_quiet _ _ _ (quiet_stat c.args.id c.args.cred _) (
            found.1,
            found.2,
            stat_shown messages c.self.inside.live queue _ _ found.0 c.bytes.ensures c.len.ensures.value,
          ));
    }
