-- What is taken up from the bytes of the input.
use Rattle.std.proofs.Common.{◌≤◌, arith, drop, refl, subst}
use Rattle.sysv_seats.specs.Sits.{ReadsNext, Sitting, messages_so_far}
use Rattle.sysv_seats.proofs.ClientSteps.{pending_next, reads_from, rest_from}
use Rattle.sysv_seats.proofs.client.Client.read_next.Goals as goal

pub returns-clause-takes : goal.returns-clause-takes
returns-clause-takes g c =
    let last : Sitting g.row.T.Denot = record {
      connection = c.self.inside.connection;
      dialogue = c.take_up_from-taken.new.conversation;
      input = drop c.self.inside.start c.self.inside.input.items;
      parked = c.self.inside.parked;
      stopped = c.self.inside.stopped;
      broken = c.self.inside.is_broken;
    } in
    subst (λ (s : Sitting g.row.T.Denot). ReadsNext s c.saturating_sub.result c.take_up_from-taken.result
    c.take_up_from-taken.new.text last) c.self.view_is
    (reads_from _ last c.saturating_sub.result c.take_up_from-taken.result c.take_up_from-taken.new.text _ _
    (rest_from c.self.inside.start c.self.inside.input.items c.deref.result.now c.deref.ensures.value)
    c.take_up_from-taken.ensures.takes c.take_up_from-taken.ensures.unsent refl c.saturating_sub.ensures)

pub returns-clause-pending : goal.returns-clause-pending
returns-clause-pending g c = λ cred request is.
    pending_next c.args.self.now _ c.saturating_sub.result c.take_up_from-taken.result c.take_up_from-taken.new.text
    cred
    request
    (subst (λ (s : Sitting g.row.T.Denot). messages_so_far s.dialogue ≤ s.dialogue.session.requests) c.self.view_is
    (omega (arith, c.self.invariant.2.0)))
    (returns-clause-takes g c) is
