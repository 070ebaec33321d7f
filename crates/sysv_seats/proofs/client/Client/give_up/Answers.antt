-- The parked call is left.
use Rattle.std.proofs.Common.{refl}
use Rattle.sysv_seats.proofs.ClientLemmas.{gives_up, keeps_from}
use Rattle.sysv_seats.proofs.Said.{said_from, said_left}
use Rattle.sysv_seats.specs.Untold.{lets_in}
use Rattle.sysv_seats.proofs.client.Client.give_up.Goals as goal

pub returns-clause-keeps : goal.returns-clause-keeps
returns-clause-keeps g c =
    keeps_from g.T.NonBlocking.incoming g.T.NonBlocking.outgoing (lets_in g.T.NonBlocking.closes) _ _ _ c.self.view_is
    (gives_up g.T.NonBlocking.incoming g.T.NonBlocking.outgoing (lets_in g.T.NonBlocking.closes) _ _ c.in-Some.parked
    c.in-Some.is)

pub returns-clause-said : goal.returns-clause-said
returns-clause-said g c =
    said_from g.T.NonBlocking.closes _ _ _ c.self.view_is
    (said_left g.T.NonBlocking.closes _ _ c.in-Some.parked c.in-Some.is refl refl)
