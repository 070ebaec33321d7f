use Rattle.sysv_gate.specs.History.{Moves}
use Rattle.sysv_gate.proofs.OneLock.{lock_of, is_at, idles, gate_after, has_waited}
use Rattle.sysv_gate.proofs.gate.Gate.await_count.Goals as goal

pub await_count-requires-clause-lock : goal.await_count-requires-clause-lock
await_count-requires-clause-lock g c =
    lock_of _ c.self.inside _ _ _ c.self.invariant c.seat.invariant c.self.view_is c.seat.view_is c.requires

pub await_count-requires-clause-at : goal.await_count-requires-clause-at
await_count-requires-clause-at g c =
    is_at _ c.self.inside _ _ _ c.self.invariant c.seat.invariant c.self.view_is c.seat.view_is c.requires

pub await_count-requires-clause-idle : goal.await_count-requires-clause-idle
await_count-requires-clause-idle g c =
    let i = idles _ c.self.inside _ _ _ c.self.invariant c.seat.invariant c.self.view_is c.seat.view_is c.requires in
    (i.no_slot, i.no_ticket, i.no_turn)

pub invariant_of-seat : goal.invariant_of-seat
invariant_of-seat g c = (has_waited (Moves g.O.Object.meaning g.O.Object.counted) c.self.inside _ _ _ c.self.invariant
    c.seat.invariant c.self.view_is c.seat.view_is c.requires g.O.Object.counted c.await_count.new.token
    c.await_count.ensures.same _ _ _ c.await_count.ensures.waited).0

pub returns-clause-gate : goal.returns-clause-gate
returns-clause-gate g c = gate_after _ c.self.inside _ _ _ c.self.invariant c.seat.invariant c.self.view_is
    c.seat.view_is c.requires g.O.Object.counted c.await_count.new.token c.await_count.ensures.same

pub returns-clause-waited : goal.returns-clause-waited
returns-clause-waited g c = (has_waited (Moves g.O.Object.meaning g.O.Object.counted) c.self.inside _ _ _
    c.self.invariant c.seat.invariant c.self.view_is c.seat.view_is c.requires g.O.Object.counted
    c.await_count.new.token c.await_count.ensures.same _ _ _ c.await_count.ensures.waited).1
