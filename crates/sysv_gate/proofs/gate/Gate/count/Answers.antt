use Rattle.sysv_gate.specs.History.{Moves}
use Rattle.sysv_gate.proofs.OneLock.{lock_of, is_at, idles, gate_after, has_read}
use Rattle.sysv_gate.proofs.gate.Gate.count.Goals as goal

pub count-requires-clause-lock : goal.count-requires-clause-lock
count-requires-clause-lock g c =
    lock_of _ c.self.inside _ _ _ c.self.invariant c.seat.invariant c.self.view_is c.seat.view_is c.requires

pub count-requires-clause-at : goal.count-requires-clause-at
count-requires-clause-at g c =
    is_at _ c.self.inside _ _ _ c.self.invariant c.seat.invariant c.self.view_is c.seat.view_is c.requires

pub count-requires-clause-idle : goal.count-requires-clause-idle
count-requires-clause-idle g c =
    let i = idles _ c.self.inside _ _ _ c.self.invariant c.seat.invariant c.self.view_is c.seat.view_is c.requires in
    (i.no_slot, i.no_ticket, i.no_turn)

pub invariant_of-seat : goal.invariant_of-seat
invariant_of-seat g c = (has_read (Moves g.O.Object.meaning g.O.Object.counted) c.self.inside _ _ _ c.self.invariant
    c.seat.invariant c.self.view_is c.seat.view_is c.requires g.O.Object.counted c.count.new.token c.count.ensures.same
    _ _ c.count.ensures.read).0

pub returns-clause-gate : goal.returns-clause-gate
returns-clause-gate g c = gate_after _ c.self.inside _ _ _ c.self.invariant c.seat.invariant c.self.view_is
    c.seat.view_is c.requires g.O.Object.counted c.count.new.token c.count.ensures.same

pub returns-clause-seat : goal.returns-clause-seat
returns-clause-seat g c = (has_read (Moves g.O.Object.meaning g.O.Object.counted) c.self.inside _ _ _ c.self.invariant
    c.seat.invariant c.self.view_is c.seat.view_is c.requires g.O.Object.counted c.count.new.token c.count.ensures.same
    _ _ c.count.ensures.read).1

pub returns-clause-learned : goal.returns-clause-learned
returns-clause-learned g c = (has_read (Moves g.O.Object.meaning g.O.Object.counted) c.self.inside _ _ _
    c.self.invariant c.seat.invariant c.self.view_is c.seat.view_is c.requires g.O.Object.counted c.count.new.token
    c.count.ensures.same _ _ c.count.ensures.read).2
