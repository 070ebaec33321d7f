use Rattle.std.proofs.lemmas.Result.{err_from_is_err_and}
use Rattle.sysv_session.specs.Calls.{Call}
use Rattle.sysv_session.proofs.SessionLemmas.{answers_call, answers_hello, stops}
use Rattle.sysv_session.proofs.session.serve_next.Goals as goal

pub returns-in_err-version-clause-serves : goal.returns-in_err-version-clause-serves
returns-in_err-version-clause-serves g c = λ newest start left taken so_far.
    let p = err_from_is_err_and c.from_residual.result c.from_residual.ensures.1 in
    rw (p.1, p.2)
    (stops newest g.K.Handler.meaning c.args.slots start left taken c.args.session.now c.args.handler.now _ _ _ _
    so_far _ c.take_up.new.self c.in_err-version.ensures.takes)

pub returns-in-Hello-clause-serves : goal.returns-in-Hello-clause-serves
returns-in-Hello-clause-serves g c = λ newest start left taken so_far.
    answers_hello newest g.K.Handler.meaning c.args.slots start left taken c.args.session.now c.args.handler.now _ _ _
    c.take_up.new.text so_far c.take_up.new.self c.answer.new.self _ c.answer.ensures.newest c.answer.ensures.caller
    c.answer.ensures.count
    c.in-Hello.version
    (rw c.in-Hello.is at c.in_ok-version.ensures.takes) c.answer.result
    (rw (c.hello_reply.ensures.reply, c.clear.ensures) at c.answer.ensures.answers)

pub returns-in-Request-clause-serves : goal.returns-in-Request-clause-serves
returns-in-Request-clause-serves g c = λ newest start left taken so_far.
    let call : Call = record {
      request = c.in-Request.request;
      text = c.take_up.new.text;
      outcome = c.call-outcome.result;
      given = c.call-outcome.new.given;
    } in
    answers_call newest g.K.Handler.meaning c.args.slots start left taken c.args.session.now c.args.handler.now _ _ _
    c.take_up.new.text so_far c.take_up.new.self c.answer-in-Request.new.self _ c.answer-in-Request.ensures.newest
    c.answer-in-Request.ensures.caller
    c.answer-in-Request.ensures.count c.in-Request.cred call c.call-outcome.new.self
    (rw c.in-Request.is at c.in_ok-version.ensures.takes) c.call-outcome.ensures.meaning
    c.call-outcome.ensures.answer c.answer-in-Request.result c.answer-in-Request.ensures.answers
