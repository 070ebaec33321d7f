use Rattle.sysv_gate.specs.History.{Moves}
use Rattle.sysv_gate.proofs.OneLock.{lock_of, is_at, idles, accepted, gate_after, called}
use Rattle.sysv_gate.proofs.gate.Gate.call.Goals as goal

pub call-requires-clause-lock : goal.call-requires-clause-lock
call-requires-clause-lock g c =
    lock_of _ c.self.inside _ _ _ c.self.invariant c.seat.invariant c.self.view_is c.seat.view_is c.requires.gate

pub call-requires-clause-at : goal.call-requires-clause-at
call-requires-clause-at g c =
    is_at _ c.self.inside _ _ _ c.self.invariant c.seat.invariant c.self.view_is c.seat.view_is c.requires.gate

pub call-requires-clause-idle : goal.call-requires-clause-idle
call-requires-clause-idle g c =
    idles _ c.self.inside _ _ _ c.self.invariant c.seat.invariant c.self.view_is c.seat.view_is c.requires.gate

pub call-requires-clause-fits : goal.call-requires-clause-fits
call-requires-clause-fits g c = accepted _ c.self.inside _ _ _ c.self.invariant c.seat.invariant c.self.view_is
    c.seat.view_is c.requires.gate g.O.Object.accepts c.args.call c.requires.fits

pub invariant_of-seat : goal.invariant_of-seat
invariant_of-seat g c = (called (Moves g.O.Object.meaning g.O.Object.counted) c.self.inside _ _ _ c.self.invariant
    c.seat.invariant c.self.view_is c.seat.view_is c.requires.gate g.O.Object.counted c.call.new.token
    c.call.ensures.same _ _ c.call.ensures.ok c.call.ensures.worn).0

pub returns-clause-gate : goal.returns-clause-gate
returns-clause-gate g c = gate_after _ c.self.inside _ _ _ c.self.invariant c.seat.invariant c.self.view_is
    c.seat.view_is c.requires.gate g.O.Object.counted c.call.new.token c.call.ensures.same

pub returns-clause-ok : goal.returns-clause-ok
returns-clause-ok g c = (called (Moves g.O.Object.meaning g.O.Object.counted) c.self.inside _ _ _ c.self.invariant
    c.seat.invariant c.self.view_is c.seat.view_is c.requires.gate g.O.Object.counted c.call.new.token
    c.call.ensures.same _ _ c.call.ensures.ok c.call.ensures.worn).1

pub returns-clause-not_worn : goal.returns-clause-not_worn
returns-clause-not_worn g c = (called (Moves g.O.Object.meaning g.O.Object.counted) c.self.inside _ _ _ c.self.invariant
    c.seat.invariant c.self.view_is c.seat.view_is c.requires.gate g.O.Object.counted c.call.new.token
    c.call.ensures.same _ _ c.call.ensures.ok c.call.ensures.worn).2

pub returns-clause-worn : goal.returns-clause-worn
returns-clause-worn g c = (called (Moves g.O.Object.meaning g.O.Object.counted) c.self.inside _ _ _ c.self.invariant
    c.seat.invariant c.self.view_is c.seat.view_is c.requires.gate g.O.Object.counted c.call.new.token
    c.call.ensures.same _ _ c.call.ensures.ok c.call.ensures.worn).3
