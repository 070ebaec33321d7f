use Rattle.std.proofs.Common.{refl, w32, w64}
use Rattle.std.proofs.lemmas.Int.{to_z-of_z}
use Rattle.sysv_queue.proofs.Turns.{quiet_place_gone, quiet_place_denied, quiet_place_full}
use Rattle.sysv_queue.proofs.Stands.{turn_quiet, turn_sent}
use Rattle.sysv_queue.proofs.slot.QueueSlot.place.Goals as goal

pub returns-in-Gone-clause-turn : goal.returns-in-Gone-clause-turn
returns-in-Gone-clause-turn c =
    let legal = rw (to_z-of_z w32 c.args.id c.ranges.id) at c.in-Gone.ensures.turn.legal in
    turn_quiet _ _ _ (quiet_place_gone c.args.id c.args.cred c.args.mtype c.args.chain.bytes c.args.now) legal

pub returns-in-Denied-clause-turn : goal.returns-in-Denied-clause-turn
returns-in-Denied-clause-turn c =
    let legal = rw (to_z-of_z w32 c.args.id c.ranges.id) at c.in-Denied.ensures.turn.legal in
    turn_quiet _ _ _ (quiet_place_denied c.args.id c.args.cred c.args.mtype c.args.chain.bytes c.args.now) legal

pub returns-in-Full-clause-turn : goal.returns-in-Full-clause-turn
returns-in-Full-clause-turn c =
    let legal = rw (to_z-of_z w32 c.args.id c.ranges.id, ← c.requires.text) at c.in-Full.ensures.turn.legal in
    turn_quiet _ _ _ (quiet_place_full c.args.id c.args.cred c.args.mtype c.args.chain.bytes c.args.now c.in-Full.freed)
    legal

pub returns-in-Fits-clause-turn : goal.returns-in-Fits-clause-turn
returns-in-Fits-clause-turn c =
    let legal = rw (to_z-of_z w32 c.args.id c.ranges.id, ← c.requires.text) at c.in-Fits.ensures.turn.legal in
    rw (c.accept.ensures.after, c.accept.ensures.number, to_z-of_z w64 c.args.mtype c.ranges.mtype)
    (turn_sent c.args.self.now c.args.id c.args.cred c.args.mtype c.args.chain.bytes c.args.now c.args.self.now.arrived
    (legal.0, legal.1, legal.2, refl))
