-- A client that has not stopped stops now.
use Rattle.std.proofs.Common.{◌≡◌}
use Rattle.sysv_session.specs.declared.served.End.TheVariants.{Reset, Write}
use Rattle.sysv_seats.proofs.ClientLemmas.{breaks_writing}
use Rattle.sysv_seats.proofs.Said.{said_broken}
use Rattle.sysv_seats.specs.Untold.{lets_in}
use Rattle.sysv_seats.proofs.client.Client.fail.Goals as goal

pub returns-clause-keeps : goal.returns-clause-keeps
returns-clause-keeps g c =
    breaks_writing g.T.NonBlocking.incoming g.T.NonBlocking.outgoing (lets_in g.T.NonBlocking.closes) _
    c.give_up.new.self c.break_off.new.self
    c.give_up.ensures.keeps c.give_up.ensures.none c.give_up.ensures.same.1 c.requires.unsent c.break_off.ensures

pub returns-clause-said : goal.returns-clause-said
returns-clause-said g c =
    said_broken g.T.NonBlocking.closes _ c.give_up.new.self c.break_off.new.self Write
    (λ (no : Write ≡ Reset). absurd (cc no)) c.give_up.ensures.said c.break_off.ensures
