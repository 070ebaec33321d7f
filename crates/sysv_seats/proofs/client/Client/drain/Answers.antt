-- The connection takes a part of the replies, or none.
use Rattle.std.proofs.Common.{ap, refl}
use Rattle.sysv_seats.proofs.ClientLemmas.{keeps_from, keeps_then, kept_sent, took, turned}
use Rattle.sysv_seats.proofs.Said.{said_from, said_same}
use Rattle.sysv_seats.specs.Breaking.{Breaks}
use Rattle.sysv_seats.specs.Untold.{lets_in}
use Rattle.sysv_seats.proofs.client.Client.drain.Goals as goal

pub invariant_of-self : goal.invariant_of-self
invariant_of-self g c =
    kept_sent _ _ _ c.self.inside.conversation c.self.inside.parked c.sent.new.self c.in-Took.count _ _
    c.self.inside.stopped c.self.inside.is_broken c.sent.ensures c.drain.ensures.breaks c.self.invariant

pub returns-in-Took-clause-keeps : goal.returns-in-Took-clause-keeps
returns-in-Took-clause-keeps g c = keeps_from g.T.NonBlocking.incoming g.T.NonBlocking.outgoing (lets_in
    g.T.NonBlocking.closes) _ _ _ c.self.view_is
    (took g.T.NonBlocking.incoming g.T.NonBlocking.outgoing (lets_in g.T.NonBlocking.closes) _ c.drain.new.self
    c.sent.new.self c.in-Took.count _
    c.unsent.ensures c.sent.ensures (c.drain.ensures.unread, ap (λ (b : Breaks). b.callers) c.drain.ensures.breaks)
    c.in-Took.ensures.bytes)

pub returns-in-NothingNow-clause-keeps : goal.returns-in-NothingNow-clause-keeps
returns-in-NothingNow-clause-keeps g c =
    keeps_from g.T.NonBlocking.incoming g.T.NonBlocking.outgoing (lets_in g.T.NonBlocking.closes) _ _ _ c.self.view_is
    (turned g.T.NonBlocking.incoming g.T.NonBlocking.outgoing (lets_in g.T.NonBlocking.closes) _ c.drain.new.self
    (c.drain.ensures.unread, ap (λ (b : Breaks). b.callers) c.drain.ensures.breaks)
    c.in-NothingNow.ensures.bytes)

pub returns-in-Failed-clause-keeps : goal.returns-in-Failed-clause-keeps
returns-in-Failed-clause-keeps g c = keeps_from g.T.NonBlocking.incoming g.T.NonBlocking.outgoing (lets_in
    g.T.NonBlocking.closes) _ _ _ c.self.view_is
    (keeps_then g.T.NonBlocking.incoming g.T.NonBlocking.outgoing (lets_in g.T.NonBlocking.closes) _ _ _
    (turned g.T.NonBlocking.incoming g.T.NonBlocking.outgoing (lets_in g.T.NonBlocking.closes) _ c.drain.new.self
    (c.drain.ensures.unread, ap (λ (b : Breaks). b.callers) c.drain.ensures.breaks)
    c.in-Failed.ensures.bytes)
    c.fail.ensures.keeps)

pub returns-in-Took-clause-said : goal.returns-in-Took-clause-said
returns-in-Took-clause-said g c =
    said_from g.T.NonBlocking.closes _ _ _ c.self.view_is
    (said_same g.T.NonBlocking.closes _ _ c.drain.ensures.said refl refl)

pub returns-in-NothingNow-clause-said : goal.returns-in-NothingNow-clause-said
returns-in-NothingNow-clause-said g c =
    said_from g.T.NonBlocking.closes _ _ _ c.self.view_is
    (said_same g.T.NonBlocking.closes _ _ c.drain.ensures.said refl refl)

pub returns-in-Failed-clause-said : goal.returns-in-Failed-clause-said
returns-in-Failed-clause-said g c =
    said_from g.T.NonBlocking.closes _ _ _ c.self.view_is
    (λ has. c.fail.ensures.said (said_same g.T.NonBlocking.closes _ _ c.drain.ensures.said refl refl has))
