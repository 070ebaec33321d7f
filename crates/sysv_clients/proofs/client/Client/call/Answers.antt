use Rattle.std.proofs.Common.{◌≡◌, length, arith, refl, subst, true, ◌∙◌}
use Rattle.std.specs.Int.{w32}
use Rattle.std.proofs.lemmas.Int.{to_z-of_z}
use Rattle.std.proofs.lemmas.Result.{err_from_is_err_and}
use Rattle.sysv_clients.specs.declared.style.Style.{Style}
use Rattle.sysv_clients.specs.Style.{grows}
use Rattle.sysv_clients.proofs.DialogueLemmas.{begins, blamed, breaks_off, goes_on, has_room, no_line, short_head}
use Rattle.sysv_clients.proofs.DialogueLemmas.{stays_within}
use Rattle.sysv_clients.proofs.client.Client.call.Goals as goal

pub loop-ask-init : goal.loop-ask-init
loop-ask-init g c = record {
  conversing = begins c.args.command.now _ _ c.args.self.now.page c.requires.page;
  text = c.requires.text;
  room = short_head c.args.command.now.task c.args.self.now.page c.requires.page;
  few = omega arith;
  same_reader = refl;
  same_writer = refl;
  reader_failed = refl;
  writer_failed = refl;
}

pub tell-requires-clause-room : goal.tell-requires-clause-room
tell-requires-clause-room g c =
    has_room c.loop-ask.place c.in-Some.ask c.in_ok-answer.answer c.exchange.new.given (length c.loop-ask.self.page)
    c.in_ok-answer.ensures.exchanges.1.1 c.in-Some.ensures.receive
    c.loop-ask.invariant.room

pub loop-ask-preserved : goal.loop-ask-preserved
loop-ask-preserved g c = record {
  conversing = rw (
    c.in_ok-tell.ensures.after,
    c.of-style.ensures,
    c.told_slots-slots.ensures,
    to_z-of_z w32 c.found-id.result (record { sfits = c.found-id.type_inv }),
    c.found-id.ensures,
  )
      (goes_on c.args.command.now c.in-Some.ask c.in_ok-answer.answer c.exchange.new.given _ _ _ _ _ _
      c.loop-ask.self.page c.loop-ask.self.text c.loop-ask.place _ _
      c.loop-ask.invariant.conversing c.in-Some.ensures.ask c.loop-ask.invariant.text c.in_ok-answer.ensures.exchanges);
  text = c.loop-ask.invariant.text;
  room = stays_within c.loop-ask.place c.in-Some.ask c.in_ok-answer.answer c.exchange.new.given
      (length c.loop-ask.self.page) (length c.tell.new.self) c.in_ok-answer.ensures.exchanges.1.1
      c.in-Some.ensures.receive
      c.loop-ask.invariant.room c.in_ok-tell.ensures.len;
  few = omega (arith, c.in-Some.ensures.few);
  same_reader = c.exchange.ensures.same_reader ∙ c.loop-ask.invariant.same_reader;
  same_writer = c.exchange.ensures.same_writer ∙ c.loop-ask.invariant.same_writer;
  reader_failed = c.in_ok-answer.ensures.failed.0 ∙ c.loop-ask.invariant.reader_failed;
  writer_failed = c.in_ok-answer.ensures.failed.1 ∙ c.loop-ask.invariant.writer_failed;
}

pub returns-in_err-answer-clause-converses : goal.returns-in_err-answer-clause-converses
returns-in_err-answer-clause-converses g c =
    let p = err_from_is_err_and c.from_residual.result c.from_residual.ensures.1 in
    rw (p.1, p.2)
    (breaks_off c.args.command.now c.in_err-answer.field-0.0 c.in-Some.ask c.exchange.new.given _ _ _ _ _ _
    c.loop-ask.self.page c.loop-ask.self.page c.loop-ask.self.text c.loop-ask.place _ _
    c.loop-ask.invariant.conversing c.in-Some.ensures.ask c.loop-ask.invariant.text c.in_err-answer.ensures.exchanges)

pub returns-in_err-answer-clause-same_reader : goal.returns-in_err-answer-clause-same_reader
returns-in_err-answer-clause-same_reader g c = c.exchange.ensures.same_reader ∙ c.loop-ask.invariant.same_reader

pub returns-in_err-answer-clause-same_writer : goal.returns-in_err-answer-clause-same_writer
returns-in_err-answer-clause-same_writer g c = c.exchange.ensures.same_writer ∙ c.loop-ask.invariant.same_writer

pub returns-in_err-tell-clause-converses : goal.returns-in_err-tell-clause-converses
returns-in_err-tell-clause-converses g c =
    let p = err_from_is_err_and c.from_residual-in_err-tell.result c.from_residual-in_err-tell.ensures.1 in
    rw (p.1, p.2)
    (no_line c.args.command.now c.in-Some.ask c.in_ok-answer.answer c.exchange.new.given _ _ _ _ _ _
    c.loop-ask.self.page c.tell.new.self c.loop-ask.self.text c.loop-ask.place _ _
    c.loop-ask.invariant.conversing c.in-Some.ensures.ask c.loop-ask.invariant.text c.in_ok-answer.ensures.exchanges
    (subst (λ (s : Style). grows s c.in_ok-answer.answer ≡ true) c.of-style.ensures c.in_err-tell.ensures.row))

pub returns-in_err-tell-clause-same_reader : goal.returns-in_err-tell-clause-same_reader
returns-in_err-tell-clause-same_reader g c = c.exchange.ensures.same_reader ∙ c.loop-ask.invariant.same_reader

pub returns-in_err-tell-clause-same_writer : goal.returns-in_err-tell-clause-same_writer
returns-in_err-tell-clause-same_writer g c = c.exchange.ensures.same_writer ∙ c.loop-ask.invariant.same_writer

pub returns-in_err-tell-clause-failed : goal.returns-in_err-tell-clause-failed
returns-in_err-tell-clause-failed g c =
    let p = err_from_is_err_and c.from_residual-in_err-tell.result c.from_residual-in_err-tell.ensures.1 in
    let f = c.in_ok-answer.ensures.failed in
    rw (p.1, p.2) (f.0 ∙ c.loop-ask.invariant.reader_failed, f.1 ∙ c.loop-ask.invariant.writer_failed)

pub returns-in_err-answer-clause-failed : goal.returns-in_err-answer-clause-failed
returns-in_err-answer-clause-failed g c =
    let p = err_from_is_err_and c.from_residual.result c.from_residual.ensures.1 in
    rw (p.1, p.2)
    (blamed c.args.command.now c.in_err-answer.field-0.0 c.in-Some.ask _ _ _ _ _ _ _ _ _ _ _ c.loop-ask.self.page
    c.loop-ask.place _ _
    c.loop-ask.invariant.conversing c.in-Some.ensures.ask c.loop-ask.invariant.reader_failed
    c.loop-ask.invariant.writer_failed c.in_err-answer.ensures.failed)

pub returns-clause-same_reader : goal.returns-clause-same_reader
returns-clause-same_reader g c = c.loop-ask.invariant.same_reader

pub returns-clause-same_writer : goal.returns-clause-same_writer
returns-clause-same_writer g c = c.loop-ask.invariant.same_writer

pub returns-clause-failed : goal.returns-clause-failed
returns-clause-failed g c = (c.loop-ask.invariant.reader_failed, c.loop-ask.invariant.writer_failed)
