-- A client that is closed has left its call.
use Rattle.std.proofs.Common.{◌≡◌, ◌∙◌, ap, drop, subst, sym, true}
use Rattle.sysv_session.specs.declared.served.End.{End}
use Rattle.sysv_session.specs.declared.served.Served.{Served}
use Rattle.sysv_session.specs.Conversation.{report, reported}
use Rattle.sysv_seats.specs.Breaking.{MayEnd}
use Rattle.sysv_seats.specs.Said.{EndsAsSaid, IsAsSaid}
use Rattle.sysv_seats.specs.Sits.{Sitting, end_at_close, is_finished}
use Rattle.sysv_seats.proofs.ClientEnds.{closed_over}
use Rattle.sysv_seats.proofs.ClientLemmas.{closing_cause, counted_of, has_room}
use Rattle.sysv_seats.proofs.Said.{said_last}
use Rattle.sysv_seats.specs.Untold.{lets_in}
use Rattle.sysv_seats.proofs.client.Client.close.Goals as goal

pub end-requires : goal.end-requires
end-requires g c = record {
  room = has_room c.self.inside.conversation c.self.inside.parked (counted_of _ _ _ c.self.inside.conversation
      c.self.inside.parked c.self.invariant);
}

pub returns-clause-over : goal.returns-clause-over
returns-clause-over g c =
    closed_over g.T.NonBlocking.incoming g.T.NonBlocking.outgoing (lets_in g.T.NonBlocking.closes)
    g.T.NonBlocking.closes _ _ _ _ _ _
    c.self.view_is c.closing_end.ensures c.end.ensures c.self.invariant.2.2 c.close.ensures

pub returns-clause-cause : goal.returns-clause-cause
returns-clause-cause g c = λ may.
    let t = g.T.NonBlocking in
    let S : Type 0 = Sitting g.row.T.Denot in
    let last : S = record {
      connection = c.self.inside.connection;
      dialogue = c.self.inside.conversation;
      input = drop c.self.inside.start c.self.inside.input.items;
      parked = c.self.inside.parked;
      stopped = c.self.inside.stopped;
      broken = c.self.inside.is_broken;
    } in
    let here = subst (λ (s : S). is_finished s ≡ true) (sym c.self.view_is) may in
    let cause = closing_cause (t.closes.breaks c.self.inside.connection) last c.self.invariant.3 here in
    let told = c.end.ensures ∙ ap (λ (w : End). report w c.self.inside.conversation) c.closing_end.ensures in
    subst (λ (e : End). MayEnd (t.closes.breaks c.args.self.connection) e) (sym (ap (λ (s : Served). s.«end») told))
    (subst (λ (s : S). MayEnd (t.closes.breaks s.connection)
    (reported (end_at_close c.self.inside.parked c.self.inside.stopped) c.self.inside.conversation.unsent.bytes))
    c.self.view_is cause)

pub returns-clause-said : goal.returns-clause-said
returns-clause-said g c = λ has.
    let t = g.T.NonBlocking in
    let S : Type 0 = Sitting g.row.T.Denot in
    let here = subst (λ (s : S). IsAsSaid t.closes s) (sym c.self.view_is) has in
    let told = c.end.ensures ∙ ap (λ (w : End). report w c.self.inside.conversation) c.closing_end.ensures in
    subst (λ (e : End). EndsAsSaid (t.closes.said c.args.self.connection) e) (sym (ap (λ (s : Served). s.«end») told))
    (subst (λ (s : S). EndsAsSaid (t.closes.said s.connection)
    (reported (end_at_close c.self.inside.parked c.self.inside.stopped) c.self.inside.conversation.unsent.bytes))
    c.self.view_is (said_last t.closes _ here))
