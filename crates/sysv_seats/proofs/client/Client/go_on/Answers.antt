-- A parked call goes on with the body in its frame.
use Rattle.std.proofs.Common.{◌≡◌, ◌∙◌, ℕ, List, Option, ap, inr, subst, sym}
use Rattle.std.specs.Prelude.{is_some}
use Rattle.sysv_wire.specs.declared.reply.Reply.{Reply as Answer}
use Rattle.sysv_seats.specs.declared.parked.Parked.{Parked}
use Rattle.sysv_seats.specs.Held.{HoldBegun, HoldParked, holder_of}
use Rattle.sysv_seats.specs.Holding.{timed}
use Rattle.sysv_seats.specs.Said.{IsAsSaid}
use Rattle.sysv_seats.specs.Sits.{Sits, Sitting, zero_moment}
use Rattle.sysv_seats.proofs.ClientSteps.{any_goes_replied, asked_before, is_waiting}
use Rattle.sysv_seats.specs.Untold.{lets_in}
use Rattle.sysv_seats.proofs.client.Client.go_on.Goals as goal

pub settle-requires-clause-replied : goal.settle-requires-clause-replied
settle-requires-clause-replied g c = any_goes_replied _ _ _ _ _ _ _ _ _ _ c.go_on-progress.ensures.looks

pub returns-clause-keeps : goal.returns-clause-keeps
returns-clause-keeps g c = λ late newest start origin sits.
    let parked = c.in-Some.parked in
    let stood = is_waiting g.T.NonBlocking.incoming g.T.NonBlocking.outgoing (lets_in g.T.NonBlocking.closes) newest
    start origin c.args.self.now
    (timed (holder_of c.args.handler.now) late) parked
    (sym (ap (λ (s : Sitting g.row.T.Denot). s.parked) c.self.view_is) ∙ c.in-Some.is) sits in
    let waits = stood.1 in
    let body : c.recall.new.text ≡ waits.text =
    c.recall.ensures waits.text waits.later waits.asking.asking.asked.1 waits.size waits.frame in
    let asked = asked_before g.T.NonBlocking.incoming g.T.NonBlocking.outgoing (lets_in g.T.NonBlocking.closes) newest
    start origin c.args.self.now
    (timed (holder_of c.args.handler.now) late) parked sits stood.0 waits in
    let begun = subst (λ (t : List ℕ). HoldBegun zero_moment parked.request.version parked.cred parked.request.ask t
    waits.before.holder c.go_on-progress.result c.go_on-progress.new.given (holder_of c.go_on-progress.new.self)) body
    (c.go_on-progress.ensures.begun waits.before.holder
    (subst (λ (t : List ℕ). HoldParked zero_moment parked.cred parked.request.ask t waits.before.holder parked.waiting
    (holder_of c.args.handler.now)) (sym body) waits.waits)) in
    let now = holder_of c.go_on-progress.new.self in
    subst (λ (s : Sitting g.row.T.Denot). Sits g.T.NonBlocking.incoming g.T.NonBlocking.outgoing (lets_in
    g.T.NonBlocking.closes) newest start origin s
    (timed now late)) (sym c.self-2.view_is)
    (subst (λ (l : List Answer). Sits g.T.NonBlocking.incoming g.T.NonBlocking.outgoing (lets_in g.T.NonBlocking.closes)
    newest start origin
    c.settle.new.self (timed now l)) (sym waits.late)
    (c.settle.ensures.keeps newest start waits.before now origin waits.text asked begun))

pub returns-clause-said : goal.returns-clause-said
returns-clause-said g c = λ has.
    let waits = sym (ap (λ (s : Sitting g.row.T.Denot). s.parked) c.self.view_is) ∙ c.in-Some.is in
    subst (IsAsSaid g.T.NonBlocking.closes) (sym c.self-2.view_is)
    (c.settle.ensures.said (inr (ap (λ (p : Option Parked). is_some p) waits)) has)
