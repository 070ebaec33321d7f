-- A client that has not stopped stops now.
use Rattle.std.proofs.Common.{◌≡◌}
use Rattle.sysv_session.specs.declared.served.End.TheVariants.{Fault, Reset}
use Rattle.sysv_wire.specs.declared.fault.Fault.TheVariants.{Read}
use Rattle.sysv_seats.proofs.ClientLemmas.{breaks_reading}
use Rattle.sysv_seats.proofs.Said.{said_broken}
use Rattle.sysv_seats.specs.Untold.{lets_in}
use Rattle.sysv_seats.proofs.client.Client.cut_off.Goals as goal

pub returns-clause-keeps : goal.returns-clause-keeps
returns-clause-keeps g c =
    breaks_reading g.T.NonBlocking.incoming g.T.NonBlocking.outgoing (lets_in g.T.NonBlocking.closes) _
    c.give_up.new.self c.break_off.new.self
    c.give_up.ensures.keeps c.give_up.ensures.none c.break_off.ensures

pub returns-clause-said : goal.returns-clause-said
returns-clause-said g c =
    said_broken g.T.NonBlocking.closes _ c.give_up.new.self c.break_off.new.self (Fault Read)
    (λ (no : Fault Read ≡ Reset). absurd (cc no)) c.give_up.ensures.said c.break_off.ensures
