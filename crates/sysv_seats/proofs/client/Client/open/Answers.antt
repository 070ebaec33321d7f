-- A new client. No read has said anything, and it has not stopped.
use Rattle.std.proofs.Common.{refl}
use Rattle.sysv_seats.proofs.ClientEnds.{opened}
use Rattle.sysv_seats.proofs.Said.{said_first}
use Rattle.sysv_seats.specs.Untold.{lets_in}
use Rattle.sysv_seats.proofs.client.Client.open.Goals as goal

pub returns-clause-sits : goal.returns-clause-sits
returns-clause-sits g c = λ pass.
    opened g.T.NonBlocking.incoming g.T.NonBlocking.outgoing (lets_in g.T.NonBlocking.closes) _ c.args.newest pass
    c.open.ensures.newest
    c.open.ensures.caller c.open.ensures.tally c.open.ensures.count c.open.ensures.unsent c.new.ensures.items
    (refl, refl)

pub returns-clause-said : goal.returns-clause-said
returns-clause-said g c = said_first g.T.NonBlocking.closes c.args.connection _ refl (refl, refl)
