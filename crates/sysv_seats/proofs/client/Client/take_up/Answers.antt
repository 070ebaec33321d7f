-- What was taken up is answered, or ends the session.
use Rattle.std.proofs.Common.{◌≡◌, ◌∙◌, ℕ, List, ap, inl, subst, sym, false}
use Rattle.std.specs.Prelude.{MatchBool}
use Rattle.std.proofs.lemmas.List.{drop-drop}
use Rattle.sysv_session.specs.declared.served.End.{End}
use Rattle.sysv_session.specs.declared.session.TakenUp.TheVariants.{Hello, Request as Asked}
use Rattle.sysv_seats.specs.Held.{holder_of}
use Rattle.sysv_seats.specs.Holding.{timed}
use Rattle.sysv_seats.specs.Callers.{includes}
use Rattle.sysv_seats.specs.Sits.{Denies, GreetsAs, HasAsked, IsPending, ReadsNext, Sitting, is_early}
use Rattle.sysv_seats.proofs.ClientSteps.{asks_next, greets_next, ok_of, one_end, settled_late, stops_next}
use Rattle.sysv_seats.proofs.ClientLemmas.{taken_cause}
use Rattle.sysv_seats.proofs.Said.{said_answered, said_read, said_stops, taken_no_reset}
use Rattle.sysv_seats.specs.Untold.{lets_in}
use Rattle.sysv_seats.proofs.client.Client.take_up.Goals as goal

pub ask-requires-clause-pending : goal.ask-requires-clause-pending
ask-requires-clause-pending g c =
    subst (λ (s : Sitting g.row.T.Denot). IsPending s) (sym c.self.view_is)
    (c.read_next-size.ensures.pending c.in-Ok-Request.cred c.in-Ok-Request.request
    (ok_of c.read_next-size.result.1 c.in-Ok-Request.field-0 (Asked c.in-Ok-Request.cred c.in-Ok-Request.request)
    c.in-Ok-Request.is (rw c.in-Ok-Request.is at c.in-Ok-Request.field-0-is)))

pub returns-in-Ok-Hello-clause-keeps : goal.returns-in-Ok-Hello-clause-keeps
returns-in-Ok-Hello-clause-keeps g c = λ late newest start origin sits.
    let t = g.T.NonBlocking in
    let S : Type 0 = Sitting g.row.T.Denot in
    let mid = c.read_next-size.new.self in
    let reads = subst (λ (s : S). ReadsNext c.args.self.now c.read_next-size.result.0
    c.read_next-size.result.1 c.read_next-size.new.text s) (sym c.self.view_is) c.read_next-size.ensures.takes in
    let is = ok_of c.read_next-size.result.1 c.in-Ok-Hello.field-0 (Hello c.in-Ok-Hello.version) c.in-Ok-Hello.is
    (rw c.in-Ok-Hello.is at c.in-Ok-Hello.field-0-is) in
    let last = c.answer_hello.new.self in
    let same = c.self.view_is ∙ c.read_next-size.ensures.takes.same in
    let seat : List ℕ → S = λ l. record {
      connection = c.self.inside.connection;
      dialogue = c.self.inside.conversation;
      input = l;
      parked = c.self.inside.parked;
      stopped = c.self.inside.stopped;
      broken = c.self.inside.is_broken;
    } in
    let answers = subst (λ (l : List ℕ). MatchBool c.lets_in-is_let_in.result
    (GreetsAs c.in-Ok-Hello.version (seat l) last) (Denies c.in-Ok-Hello.version (seat l) last))
    (sym (drop-drop c.read_next-size.result.0 c.self.inside.start c.self.inside.input.items))
    c.answer_hello.ensures.answers in
    greets_next t.incoming t.outgoing (lets_in t.closes) newest start (timed (holder_of c.args.handler.now) late) origin
    c.args.self.now _ c.read_next-size.result.0 c.read_next-size.result.1 c.read_next-size.new.text c.requires.free
    reads sits c.in-Ok-Hello.version last c.lets_in-is_let_in.result is
    (λ cred later fits encoded.
    c.lets_in-is_let_in.ensures c.in-Ok-Hello.version cred later fits
    (ap (λ (s : S). s.input) same ∙ encoded)
    ∙ ap (λ (s : S). includes (lets_in t.closes s.connection) cred) same) answers

pub returns-in-Ok-Request-clause-keeps : goal.returns-in-Ok-Request-clause-keeps
returns-in-Ok-Request-clause-keeps g c = λ late newest start origin sits.
    let is = ok_of c.read_next-size.result.1 c.in-Ok-Request.field-0
    (Asked c.in-Ok-Request.cred c.in-Ok-Request.request) c.in-Ok-Request.is
    (rw c.in-Ok-Request.is at c.in-Ok-Request.field-0-is) in
    c.ask.ensures.keeps late newest start origin
    (subst (λ (s : Sitting g.row.T.Denot). HasAsked g.T.NonBlocking.incoming g.T.NonBlocking.outgoing (lets_in
    g.T.NonBlocking.closes) newest start
    origin s
    c.in-Ok-Request.cred c.in-Ok-Request.request c.read_next-size.new.text c.read_next-size.result.0
    (timed (holder_of c.args.handler.now) late)) (sym c.self.view_is)
    (asks_next g.T.NonBlocking.incoming g.T.NonBlocking.outgoing (lets_in g.T.NonBlocking.closes) newest start
    (timed (holder_of c.args.handler.now) late) origin
    c.args.self.now
    c.read_next-size.new.self c.read_next-size.result.0 c.read_next-size.result.1 c.read_next-size.new.text
    c.requires.free c.read_next-size.ensures.takes sits c.in-Ok-Request.cred c.in-Ok-Request.request is))

pub stop-requires : goal.stop-requires
stop-requires g c =
    taken_cause (g.T.NonBlocking.closes.breaks c.self.inside.connection) _ _ c.read_next-size.result.1 c.in-Err-2.why _
    _ _ c.args.is_end c.in-Err-2.is
    (subst (λ (e : End). is_early e c.args.is_end ≡ false)
    (one_end c.read_next-size.result.1 c.in-Err.why c.in-Err-2.why c.in-Err.is c.in-Err-2.is)
    (sym c.is_early.ensures ∙ c.if-is_early.false))
    c.read_next-size.ensures.takes.takes

pub returns-in-Err-2-clause-keeps : goal.returns-in-Err-2-clause-keeps
returns-in-Err-2-clause-keeps g c = λ late newest start origin sits.
    let reads = subst (λ (s : Sitting g.row.T.Denot). ReadsNext c.args.self.now c.read_next-size.result.0
    c.read_next-size.result.1 c.read_next-size.new.text s) (sym c.self.view_is) c.read_next-size.ensures.takes in
    let not_early = subst (λ (e : End). is_early e c.args.is_end ≡ false)
    (one_end c.read_next-size.result.1 c.in-Err.why c.in-Err-2.why c.in-Err.is c.in-Err-2.is)
    (sym c.is_early.ensures ∙ c.if-is_early.false) in
    stops_next g.T.NonBlocking.incoming g.T.NonBlocking.outgoing (lets_in g.T.NonBlocking.closes) newest start
    (timed (holder_of c.args.handler.now) late) origin
    c.args.self.now _ c.read_next-size.result.0 c.read_next-size.result.1 c.read_next-size.new.text
    c.requires.free reads sits c.in-Err-2.why c.stop.new.self c.in-Err-2.is
    (settled_late c.in-Err-2.why _ c.args.is_end not_early c.requires.end) c.stop.ensures

pub returns-in-Ok-Hello-clause-said : goal.returns-in-Ok-Hello-clause-said
returns-in-Ok-Hello-clause-said g c = λ has.
    let t = g.T.NonBlocking in
    let S : Type 0 = Sitting g.row.T.Denot in
    let same = c.self.view_is ∙ c.read_next-size.ensures.takes.same in
    let going = ap (λ (s : S). s.stopped) same ∙ c.requires.free.1 in
    let read = said_read t.closes c.args.self.now _ c.read_next-size.new.self.dialogue same has in
    said_answered t.closes _ c.answer_hello.new.self c.in-Ok-Hello.version c.lets_in-is_let_in.result going
    c.answer_hello.ensures.answers (record { stops = read.stops })

pub returns-in-Ok-Request-clause-said : goal.returns-in-Ok-Request-clause-said
returns-in-Ok-Request-clause-said g c = λ has.
    let t = g.T.NonBlocking in
    let S : Type 0 = Sitting g.row.T.Denot in
    let same = c.self.view_is ∙ c.read_next-size.ensures.takes.same in
    let going = ap (λ (s : S). s.stopped) same ∙ c.requires.free.1 in
    c.ask.ensures.said going (said_read t.closes c.args.self.now _ c.read_next-size.new.self.dialogue same has)

pub returns-in-Err-2-clause-said : goal.returns-in-Err-2-clause-said
returns-in-Err-2-clause-said g c =
    let t = g.T.NonBlocking in
    let S : Type 0 = Sitting g.row.T.Denot in
    let same = c.self.view_is ∙ c.read_next-size.ensures.takes.same in
    let late = subst (λ (e : End). is_early e c.args.is_end ≡ false)
    (one_end c.read_next-size.result.1 c.in-Err.why c.in-Err-2.why c.in-Err.is c.in-Err-2.is)
    (sym c.is_early.ensures ∙ c.if-is_early.false) in
    let other = taken_no_reset _ _ c.read_next-size.result.1 c.in-Err-2.why _ _ _ c.args.is_end c.in-Err-2.is late
    c.read_next-size.ensures.takes.takes in
    said_stops t.closes c.args.self.now c.stop.new.self c.in-Err-2.why other (inl c.requires.free.1)
    (ap (λ (s : S). s.connection) c.stop.ensures ∙ ap (λ (s : S). s.connection) same)
    (ap (λ (s : S). s.stopped) c.stop.ensures)
