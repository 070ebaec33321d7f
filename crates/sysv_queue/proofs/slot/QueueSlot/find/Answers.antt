use Rattle.std.proofs.Common.{◌≡◌, ℕ, ◌↔◌, Option, Some, MatchOption, sym, subst, rules, w32}
use Rattle.std.proofs.lemmas.Int.{to_z-of_z}
use Rattle.sysv_model.specs.declared.attributes.Attributes.{Attributes}
use Rattle.sysv_queue.specs.Slot.{Slot}
use Rattle.sysv_queue.specs.Fits.{Fits as FitsOn}
use Rattle.sysv_queue.specs.LegalReply.{HasRoom}
use Rattle.sysv_queue.proofs.Turns.{quiet_look}
use Rattle.sysv_queue.proofs.Stands.{turn_quiet}
use Rattle.sysv_queue.proofs.slot.QueueSlot.find.Goals as goal

-- A live queue has room for a message if and only if the message fits on it.
room_of : (s : Slot) (size : ℕ) (live : Option Attributes) (queue : Attributes) → live ≡ Some queue →
    FitsOn queue.qbytes s.messages size ↔ MatchOption live ⊥ (λ a. FitsOn a.qbytes s.messages size)
room_of s size live queue is =
    subst (λ l. FitsOn queue.qbytes s.messages size ↔ MatchOption l ⊥ (λ a. FitsOn a.qbytes s.messages size)) (sym is)
    ((λ fits. fits), (λ room. room))

pub returns-in-Err-Gone-clause-turn : goal.returns-in-Err-Gone-clause-turn
returns-in-Err-Gone-clause-turn c =
    let gone = rw (to_z-of_z w32 c.args.id c.ranges.id, c.in-Err-Gone.field-0-is) at c.in-Err-Gone.ensures.barred in
    turn_quiet _ _ _ (quiet_look c.args.id c.args.cred c.args.size _) gone

pub returns-in-Err-Denied-clause-turn : goal.returns-in-Err-Denied-clause-turn
returns-in-Err-Denied-clause-turn c =
    let denied =
    rw (to_z-of_z w32 c.args.id c.ranges.id, c.in-Err-Denied.field-0-is) at c.in-Err-Denied.ensures.barred in
    turn_quiet _ _ _ (quiet_look c.args.id c.args.cred c.args.size _) denied

pub returns-then-has_room-clause-turn : goal.returns-then-has_room-clause-turn
returns-then-has_room-clause-turn c =
    let found = rw (to_z-of_z w32 c.args.id c.ranges.id) at c.in-Ok.ensures.enters in
    let room = c.has_room.ensures.room.0 c.if-has_room.true in
    turn_quiet _ _ _ (quiet_look c.args.id c.args.cred c.args.size _)
    (found.1, found.2, (room_of c.args.self.now c.args.size c.args.self.now.live c.in-Ok.queue found.0).0 room)

pub returns-else-has_room-clause-turn : goal.returns-else-has_room-clause-turn
returns-else-has_room-clause-turn c =
    let found = rw (to_z-of_z w32 c.args.id c.ranges.id) at c.in-Ok.ensures.enters in
    let full : ¬ HasRoom c.args.self.now c.args.size = λ room.
    let t = c.has_room.ensures.room.1 ((room_of c.args.self.now c.args.size c.args.self.now.live c.in-Ok.queue
    found.0).1 room) in
    cc in
    turn_quiet _ _ _ (quiet_look c.args.id c.args.cred c.args.size _) (found.1, found.2, full, search rules)
