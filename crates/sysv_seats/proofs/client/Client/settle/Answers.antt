-- The outcome is put, and the client stops if that fails; or the call is parked.
use Rattle.std.proofs.Common.{◌≡◌, ◌≤◌, ◌∙◌, ℕ, List, length, Result, ap, refl, sym, subst, subst₂, arith, true}
use Rattle.std.proofs.lemmas.List.{drop-drop}
use Rattle.std.specs.Prelude.{⊤}
use Rattle.sysv_service.specs.declared.progress.Progress.{Progress}
use Rattle.sysv_service.specs.declared.progress.Progress.TheVariants as progress
use Rattle.sysv_session.specs.declared.handler.RequestOutcome.{RequestOutcome}
use Rattle.sysv_session.specs.declared.served.End.{End}
use Rattle.sysv_session.specs.Conversation.{Puts}
use Rattle.sysv_seats.specs.declared.notification.Told.{Told}
use Rattle.sysv_seats.specs.declared.tools.Tools.{Tools}
use Rattle.sysv_steps.specs.declared.pending.Waiting.{Waiting}
use Rattle.sysv_seats.specs.Notification.{Keeps as KeepsNotification, notifications_of, told_of}
use Rattle.sysv_wire.specs.declared.request.Ask.{Ask}
use Rattle.sysv_seats.specs.Holding.{timed}
use Rattle.sysv_seats.specs.Sits.{HasAsked, IsPending, Sits, Sitting, is_hold_wait_of}
use Rattle.sysv_seats.proofs.ClientLemmas.{put_cause}
use Rattle.sysv_seats.proofs.ClientSteps.{answers, over_has, parks, put_none, put_reply, short_given, waits_by}
use Rattle.sysv_seats.proofs.Said.{put_no_reset, said_parks, said_stops}
use Rattle.sysv_seats.specs.Untold.{lets_in}
use Rattle.sysv_seats.proofs.client.Client.settle.Goals as goal

-- The body that was given is the same.
given_still : (old new : Tools) → new ≡ record old { notifications = new.notifications; missed = new.missed } →
    new.given ≡ old.given
given_still old new is = ap (λ (t : Tools). t.given) is

-- What was told of a call that has come so far is kept.
told_keeps : (made : Ask) (came one : Progress Waiting RequestOutcome) (told : Told) (old new : Tools) → came ≡ one →
    told ≡ told_of made one → KeepsNotification (notifications_of told) old new →
    KeepsNotification (notifications_of (told_of made came)) old new
told_keeps made came one told old new is what =
    subst (λ (t : Told). KeepsNotification (notifications_of t) old new) (what ∙ ap (told_of made) (sym is))

pub returns-in-Err-clause-notifications : goal.returns-in-Err-clause-notifications
returns-in-Err-clause-notifications g c =
    told_keeps c.args.made.now c.args.progress (progress.Over c.in-Over.outcome) c.by_end.result c.args.tools.now
    c.tell.new.self c.in-Over.is c.by_end.ensures c.tell.ensures

pub returns-in_default-clause-notifications : goal.returns-in_default-clause-notifications
returns-in_default-clause-notifications g c =
    told_keeps c.args.made.now c.args.progress (progress.Over c.in-Over.outcome) c.by_end.result c.args.tools.now
    c.tell.new.self c.in-Over.is c.by_end.ensures c.tell.ensures

pub returns-in-Waits-clause-notifications : goal.returns-in-Waits-clause-notifications
returns-in-Waits-clause-notifications g c =
    told_keeps c.args.made.now c.args.progress (progress.Waits c.in-Waits.waiting) c.by_wait.result c.args.tools.now
    c.tell-in-Waits.new.self c.in-Waits.is c.by_wait.ensures c.tell-in-Waits.ensures

pub put-requires-clause-text : goal.put-requires-clause-text
put-requires-clause-text g c =
    rw (given_still c.args.tools.now c.tell.new.self c.tell.ensures.0)
    (short_given c.args.request.version c.args.request.ask c.in-Over.outcome c.args.tools.now.given
    (answers _ _ c.args.progress _ _ c.in-Over.is c.requires.answer))

pub stop-requires : goal.stop-requires
stop-requires g c =
    let put = subst (λ (r : Result ⊤ End). Puts r c.args.request.version c.in-Over.outcome c.tell.new.self.given
    c.self.inside.conversation c.put.new.self) c.in-Err.is c.put.ensures in
    put_cause (g.T.NonBlocking.closes.breaks c.self.inside.connection) _ c.in-Over.outcome _ _ _ c.in-Err.why
    (over_has c.args.progress c.in-Over.outcome c.in-Over.is c.requires.replied) put

pub invariant_of-self-in-Waits : goal.invariant_of-self-in-Waits
invariant_of-self-in-Waits g c =
    let waits : is_hold_wait_of c.args.request.ask c.in-Waits.waiting ≡ true =
    waits_by _ _ c.args.progress _ _ c.in-Waits.is c.requires.answer in
    let same = sym c.self-in-Waits.view_is in
    let frame = subst (λ (s : Sitting g.row.T.Denot). c.args.size ≤ length s.input) same c.requires.frame in
    let pending = subst (λ (s : Sitting g.row.T.Denot). IsPending s) same c.requires.pending in (
      omega arith,
      (frame, waits),
      (omega (arith, pending), omega arith, c.self-in-Waits.invariant.2.2),
      c.self-in-Waits.invariant.3,
    )

pub returns-in-Err-clause-keeps : goal.returns-in-Err-clause-keeps
returns-in-Err-clause-keeps g c = λ newest start before now origin text asked begun.
    let there = subst (λ (s : Sitting g.row.T.Denot). HasAsked g.T.NonBlocking.incoming g.T.NonBlocking.outgoing
    (lets_in g.T.NonBlocking.closes) newest
    start origin s c.args.cred c.args.request text c.args.size before) (sym c.self.view_is) asked in
    let put = subst₂ (λ (r : Result ⊤ End) (l : List ℕ). Puts r c.args.request.version c.in-Over.outcome l
    c.self.inside.conversation c.put.new.self) c.in-Err.is
    (given_still c.args.tools.now c.tell.new.self c.tell.ensures.0) c.put.ensures in
    subst (λ (s : Sitting g.row.T.Denot). Sits g.T.NonBlocking.incoming g.T.NonBlocking.outgoing (lets_in
    g.T.NonBlocking.closes) newest start origin
    s (timed now before.late))
    (sym c.stop.ensures)
    (put_none g.T.NonBlocking.incoming g.T.NonBlocking.outgoing (lets_in g.T.NonBlocking.closes) newest start before now
    origin _ _ c.args.cred
    c.args.request
    text c.args.size there refl c.args.progress c.in-Over.outcome c.args.tools.now.given c.in-Over.is begun
    c.requires.answer c.in-Err.why put refl refl)

pub returns-in_default-clause-keeps : goal.returns-in_default-clause-keeps
returns-in_default-clause-keeps g c = λ newest start before now origin text asked begun.
    let there = subst (λ (s : Sitting g.row.T.Denot). HasAsked g.T.NonBlocking.incoming g.T.NonBlocking.outgoing
    (lets_in g.T.NonBlocking.closes) newest
    start origin s c.args.cred c.args.request text c.args.size before) (sym c.self.view_is) asked in
    let put = subst₂ (λ (r : Result ⊤ End) (l : List ℕ). Puts r c.args.request.version c.in-Over.outcome l
    c.self.inside.conversation c.put.new.self) c.in_default.is
    (given_still c.args.tools.now c.tell.new.self c.tell.ensures.0) c.put.ensures in
    put_reply g.T.NonBlocking.incoming g.T.NonBlocking.outgoing (lets_in g.T.NonBlocking.closes) newest start before now
    origin _ _ c.args.cred
    c.args.request
    text c.args.size there refl c.args.progress c.in-Over.outcome c.args.tools.now.given c.in-Over.is begun
    c.requires.answer put (sym (drop-drop c.args.size c.self.inside.start c.self.inside.input.items)) refl refl

pub returns-in-Waits-clause-keeps : goal.returns-in-Waits-clause-keeps
returns-in-Waits-clause-keeps g c = λ newest start before now origin text asked begun.
    let there = subst (λ (s : Sitting g.row.T.Denot). HasAsked g.T.NonBlocking.incoming g.T.NonBlocking.outgoing
    (lets_in g.T.NonBlocking.closes) newest
    start origin s c.args.cred c.args.request text c.args.size before) (sym c.self-in-Waits.view_is) asked in
    parks g.T.NonBlocking.incoming g.T.NonBlocking.outgoing (lets_in g.T.NonBlocking.closes) newest start before now
    origin _ _ c.args.cred
    c.args.request
    text c.args.size there refl c.args.progress c.in-Waits.waiting c.args.tools.now.given c.in-Waits.is begun refl
    refl
    refl refl

pub returns-in-Err-clause-said : goal.returns-in-Err-clause-said
returns-in-Err-clause-said g c = λ going.
    let put = subst (λ (r : Result ⊤ End). Puts r c.args.request.version c.in-Over.outcome c.tell.new.self.given
    c.self.inside.conversation c.put.new.self) c.in-Err.is c.put.ensures in
    let other = put_no_reset c.args.request.version c.in-Over.outcome _ _ _ c.in-Err.why
    (over_has c.args.progress c.in-Over.outcome c.in-Over.is c.requires.replied) put in
    said_stops g.T.NonBlocking.closes c.args.self.now c.stop.new.self c.in-Err.why other going
    (ap (λ (s : Sitting g.row.T.Denot). s.connection) c.stop.ensures
    ∙ ap (λ (s : Sitting g.row.T.Denot). s.connection) c.self.view_is)
    (ap (λ (s : Sitting g.row.T.Denot). s.stopped) c.stop.ensures)

pub returns-in_default-clause-said : goal.returns-in_default-clause-said
returns-in_default-clause-said g c = λ going.
    said_parks g.T.NonBlocking.closes c.args.self.now _ going
    (ap (λ (s : Sitting g.row.T.Denot). s.connection) c.self.view_is)
    (ap (λ (s : Sitting g.row.T.Denot). s.stopped) c.self.view_is)

pub returns-in-Waits-clause-said : goal.returns-in-Waits-clause-said
returns-in-Waits-clause-said g c = λ going.
    said_parks g.T.NonBlocking.closes c.args.self.now _ going
    (ap (λ (s : Sitting g.row.T.Denot). s.connection) c.self-in-Waits.view_is)
    (ap (λ (s : Sitting g.row.T.Denot). s.stopped) c.self-in-Waits.view_is)
