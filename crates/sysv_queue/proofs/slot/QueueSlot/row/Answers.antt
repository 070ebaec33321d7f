use Rattle.std.proofs.Common.{option_map, sym, ap, rules, w32, FitsSigned}
use Rattle.std.proofs.lemmas.Int.{to_z-of_z}
use Rattle.sysv_model.specs.declared.attributes.Attributes.{Attributes}
use Rattle.sysv_queue.specs.Shown.{row_of}
use Rattle.sysv_queue.proofs.Turns.{quiet_row}
use Rattle.sysv_queue.proofs.Stands.{turn_quiet}
use Rattle.sysv_queue.proofs.Shows.{row_shown}
use Rattle.sysv_queue.proofs.slot.QueueSlot.row.Goals as goal

pub returns-in-Some : goal.returns-in-Some
returns-in-Some c =
    let queue : Attributes = c.in-Some.queue in
    let id_fits : FitsSigned w32 queue.id = search rules in
    let key_fits : FitsSigned w32 queue.key = search rules in
    let messages = c.self.inside.messages in
    record {
      turn = rw (to_z-of_z w32 queue.id id_fits, to_z-of_z w32 queue.key key_fits, ← c.self.view_is)
          (turn_quiet _ _ _ (quiet_row _)
          (row_shown messages c.self.inside.live queue _ _ c.in-Some.is c.bytes.ensures c.len.ensures.value));
    }

pub returns-in-None : goal.returns-in-None
returns-in-None c = record {
  turn = rw (← c.self.view_is)
      (turn_quiet _ _ _ (quiet_row _) (sym (ap (option_map (row_of c.self.inside.messages)) c.in-None.is)));
}
