use Rattle.sysv_gate.specs.History.{Moves}
use Rattle.sysv_gate.proofs.OneLock.{lock_of, is_at, idles, accepted, gate_after, tried}
use Rattle.sysv_gate.proofs.gate.Gate.try_call.Goals as goal

pub try_call-requires-clause-lock : goal.try_call-requires-clause-lock
try_call-requires-clause-lock g c =
    lock_of _ c.self.inside _ _ _ c.self.invariant c.seat.invariant c.self.view_is c.seat.view_is c.requires.gate

pub try_call-requires-clause-at : goal.try_call-requires-clause-at
try_call-requires-clause-at g c =
    is_at _ c.self.inside _ _ _ c.self.invariant c.seat.invariant c.self.view_is c.seat.view_is c.requires.gate

pub try_call-requires-clause-idle : goal.try_call-requires-clause-idle
try_call-requires-clause-idle g c =
    idles _ c.self.inside _ _ _ c.self.invariant c.seat.invariant c.self.view_is c.seat.view_is c.requires.gate

pub try_call-requires-clause-fits : goal.try_call-requires-clause-fits
try_call-requires-clause-fits g c = accepted _ c.self.inside _ _ _ c.self.invariant c.seat.invariant c.self.view_is
    c.seat.view_is c.requires.gate g.O.Object.accepts c.args.call c.requires.fits

pub invariant_of-seat : goal.invariant_of-seat
invariant_of-seat g c = (tried (Moves g.O.Object.meaning g.O.Object.counted) c.self.inside _ _ _ c.self.invariant
    c.seat.invariant c.self.view_is c.seat.view_is c.requires.gate g.O.Object.counted c.try_call.new.token
    c.try_call.ensures.same _ _ c.try_call.ensures.ok c.try_call.ensures.err).0

pub returns-clause-gate : goal.returns-clause-gate
returns-clause-gate g c = gate_after _ c.self.inside _ _ _ c.self.invariant c.seat.invariant c.self.view_is
    c.seat.view_is c.requires.gate g.O.Object.counted c.try_call.new.token c.try_call.ensures.same

pub returns-clause-ok : goal.returns-clause-ok
returns-clause-ok g c = (tried (Moves g.O.Object.meaning g.O.Object.counted) c.self.inside _ _ _ c.self.invariant
    c.seat.invariant c.self.view_is c.seat.view_is c.requires.gate g.O.Object.counted c.try_call.new.token
    c.try_call.ensures.same _ _ c.try_call.ensures.ok c.try_call.ensures.err).1

pub returns-clause-not_worn : goal.returns-clause-not_worn
returns-clause-not_worn g c = (tried (Moves g.O.Object.meaning g.O.Object.counted) c.self.inside _ _ _ c.self.invariant
    c.seat.invariant c.self.view_is c.seat.view_is c.requires.gate g.O.Object.counted c.try_call.new.token
    c.try_call.ensures.same _ _ c.try_call.ensures.ok c.try_call.ensures.err).2

pub returns-clause-err : goal.returns-clause-err
returns-clause-err g c = (tried (Moves g.O.Object.meaning g.O.Object.counted) c.self.inside _ _ _ c.self.invariant
    c.seat.invariant c.self.view_is c.seat.view_is c.requires.gate g.O.Object.counted c.try_call.new.token
    c.try_call.ensures.same _ _ c.try_call.ensures.ok c.try_call.ensures.err).3
