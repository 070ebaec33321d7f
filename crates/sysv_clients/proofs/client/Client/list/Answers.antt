use Rattle.std.proofs.Common.{◌≡◌, ◌+◌, length, arith, refl, subst, true, ◌∙◌, pos, inl}
use Rattle.std.proofs.lemmas.Result.{err_from_is_err_and}
use Rattle.sysv_clients.specs.declared.style.Style.{Style}
use Rattle.sysv_clients.specs.Style.{grows}
use Rattle.sysv_wire.specs.declared.request.Ask.TheVariants.{Hello, Row}
use Rattle.sysv_clients.specs.declared.fault.ClientFault.TheVariants.{NoReply}
use Rattle.sysv_model.specs.Instrumented.{stream_of}
use Rattle.sysv_clients.proofs.RowLemmas.{asks_more, cannot_ask, heard_exchanged, hears_row, lacks_row, lists_all}
use Rattle.sysv_clients.proofs.RowLemmas.{lists_from, loses_row, no_receive, row_blamed}
use Rattle.sysv_clients.proofs.DialogueLemmas.{begins, blamed, breaks_off, has_room, short_head, stays_within}
use Rattle.sysv_clients.proofs.client.Client.list.Goals as goal

pub returns-in_err-welcome-clause-converses : goal.returns-in_err-welcome-clause-converses
returns-in_err-welcome-clause-converses g c =
    let command = c.args.command.now in
    let page = c.args.self.now.page in
    let p = err_from_is_err_and c.from_residual.result c.from_residual.ensures.1 in
    rw (p.1, p.2)
    (breaks_off command c.in_err-welcome.field-0.0 (Hello command.cred) c.exchange.new.given _ _ _ _ _ _ page page
    c.args.self.now.text 0 0 (pos 0)
    (begins command _ _ page c.requires.page) refl c.requires.text c.in_err-welcome.ensures.exchanges)

pub returns-in_err-welcome-clause-failed : goal.returns-in_err-welcome-clause-failed
returns-in_err-welcome-clause-failed g c =
    let command = c.args.command.now in
    let page = c.args.self.now.page in
    let taken = g.W.Write.contents (stream_of c.args.writer.now) in
    let p = err_from_is_err_and c.from_residual.result c.from_residual.ensures.1 in
    rw (p.1, p.2)
    (blamed command c.in_err-welcome.field-0.0 (Hello command.cred) _ _ _ _ _ _ _ _ _ taken taken page 0 0 (pos 0)
    (begins command _ taken page c.requires.page) refl refl refl c.in_err-welcome.ensures.failed)

pub returns-in_err-welcome-clause-same_reader : goal.returns-in_err-welcome-clause-same_reader
returns-in_err-welcome-clause-same_reader g c = c.exchange.ensures.same_reader

pub returns-in_err-welcome-clause-same_writer : goal.returns-in_err-welcome-clause-same_writer
returns-in_err-welcome-clause-same_writer g c = c.exchange.ensures.same_writer

pub loop-slot-init : goal.loop-slot-init
loop-slot-init g c =
    let command = c.args.command.now in
    let page = c.args.self.now.page in record {
      listing = rw c.told_slots-slots.ensures
          (lists_from command c.in_ok-welcome.welcome c.exchange.new.given _ _ _ _ page c.args.self.now.text
          (begins command _ _ page c.requires.page) c.requires.text c.in_ok-welcome.ensures.exchanges);
      text = c.requires.text;
      room = omega (arith, short_head command.task page c.requires.page);
      ahead = omega arith;
      bound = omega arith;
      few = omega arith;
      same_reader = c.exchange.ensures.same_reader;
      same_writer = c.exchange.ensures.same_writer;
      reader_failed = c.in_ok-welcome.ensures.failed.0;
      writer_failed = c.in_ok-welcome.ensures.failed.1;
    }

pub returns-in-Err-clause-converses : goal.returns-in-Err-clause-converses
returns-in-Err-clause-converses g c =
    let r = c.in-Err.ensures.requests in
    cannot_ask c.args.command.now _ _ _ _ _ c.loop-slot.self.page c.loop-slot.self.page c.loop-slot.self.text
    c.loop-slot.slot
    c.loop-slot.sent r.1 _ c.requires.list r.2 (omega (arith, r.3, c.min-rows.ensures)) r.4 r.0
    c.loop-slot.invariant.text c.loop-slot.invariant.listing r.5

pub returns-in-Err-clause-failed : goal.returns-in-Err-clause-failed
returns-in-Err-clause-failed g c =
    row_blamed c.args.command.now NoReply _ _ _ _ _ _ _ _ _ _ _ c.loop-slot.self.page c.loop-slot.slot
    c.loop-slot.sent _ c.requires.list (omega (arith, c.in-Err.ensures.requests, c.min-rows.ensures))
    c.loop-slot.invariant.listing
    c.loop-slot.invariant.reader_failed c.loop-slot.invariant.writer_failed
    (inl (c.in-Err.ensures.stream.failed, refl, refl))

pub returns-in-Err-clause-same_reader : goal.returns-in-Err-clause-same_reader
returns-in-Err-clause-same_reader g c = c.loop-slot.invariant.same_reader

pub returns-in-Err-clause-same_writer : goal.returns-in-Err-clause-same_writer
returns-in-Err-clause-same_writer g c = c.in-Err.ensures.stream.same ∙ c.loop-slot.invariant.same_writer

pub returns-in_err-answer-clause-converses : goal.returns-in_err-answer-clause-converses
returns-in_err-answer-clause-converses g c =
    let command = c.args.command.now in
    let r = c.in-Ok.ensures.requests in
    let page = c.loop-slot.self.page in
    let p = err_from_is_err_and c.from_residual-in_err-answer.result c.from_residual-in_err-answer.ensures.1 in
    let listing = asks_more command _ _ _ _ _ page c.loop-slot.self.text c.loop-slot.slot c.loop-slot.sent c.in-Ok.sent
    _ c.loop-slot.invariant.text r.3 c.loop-slot.invariant.listing in
    rw (p.1, p.2)
    (loses_row command c.in_err-answer.field-0.0 c.hear.new.given _ _ _ _ _ page page c.loop-slot.slot c.in-Ok.sent _
    c.requires.list r.0 (omega (arith, r.1, c.min-rows.ensures)) r.2 listing c.in_err-answer.ensures.hears)

pub returns-in_err-answer-clause-failed : goal.returns-in_err-answer-clause-failed
returns-in_err-answer-clause-failed g c =
    let p = err_from_is_err_and c.from_residual-in_err-answer.result c.from_residual-in_err-answer.ensures.1 in
    let r = c.in-Ok.ensures.requests in
    rw (p.1, p.2)
    (row_blamed c.args.command.now c.in_err-answer.field-0.0 _ _ _ _ _ _ _ _ _ _ _ c.loop-slot.self.page
    c.loop-slot.slot c.loop-slot.sent _ c.requires.list (omega (arith, r.0, r.1, c.min-rows.ensures))
    c.loop-slot.invariant.listing
    c.loop-slot.invariant.reader_failed (c.in-Ok.ensures.stream.failed ∙ c.loop-slot.invariant.writer_failed)
    (heard_exchanged (Row c.loop-slot.slot) c.in_err-answer.field-0.0 _ _ _ _ _ c.in_err-answer.ensures.failed))

pub returns-in_err-answer-clause-same_reader : goal.returns-in_err-answer-clause-same_reader
returns-in_err-answer-clause-same_reader g c = c.hear.ensures.same ∙ c.loop-slot.invariant.same_reader

pub returns-in_err-answer-clause-same_writer : goal.returns-in_err-answer-clause-same_writer
returns-in_err-answer-clause-same_writer g c = c.in-Ok.ensures.stream.same ∙ c.loop-slot.invariant.same_writer

pub tell-requires-clause-room : goal.tell-requires-clause-room
tell-requires-clause-room g c =
    has_room (c.loop-slot.slot + 1) (Row c.loop-slot.slot) c.in_ok-answer.answer c.hear.new.given
    (length c.loop-slot.self.page) c.in_ok-answer.ensures.hears.1
    (no_receive c.loop-slot.slot (c.loop-slot.slot + 1)) c.loop-slot.invariant.room

pub returns-in_err-tell-clause-converses : goal.returns-in_err-tell-clause-converses
returns-in_err-tell-clause-converses g c =
    let command = c.args.command.now in
    let r = c.in-Ok.ensures.requests in
    let page = c.loop-slot.self.page in
    let p = err_from_is_err_and c.from_residual-in_err-tell.result c.from_residual-in_err-tell.ensures.1 in
    let listing = asks_more command _ _ _ _ _ page c.loop-slot.self.text c.loop-slot.slot c.loop-slot.sent c.in-Ok.sent
    _ c.loop-slot.invariant.text r.3 c.loop-slot.invariant.listing in
    rw (p.1, p.2)
    (lacks_row command c.in_ok-answer.answer c.hear.new.given _ _ _ _ _ page c.tell.new.self c.loop-slot.slot
    c.in-Ok.sent _ c.requires.list r.0 (omega (arith, r.1, c.min-rows.ensures)) r.2 listing
    c.in_ok-answer.ensures.hears
    (subst (λ (s : Style). grows s c.in_ok-answer.answer ≡ true) c.of-style.ensures c.in_err-tell.ensures.row))

pub returns-in_err-tell-clause-same_reader : goal.returns-in_err-tell-clause-same_reader
returns-in_err-tell-clause-same_reader g c = c.hear.ensures.same ∙ c.loop-slot.invariant.same_reader

pub returns-in_err-tell-clause-same_writer : goal.returns-in_err-tell-clause-same_writer
returns-in_err-tell-clause-same_writer g c = c.in-Ok.ensures.stream.same ∙ c.loop-slot.invariant.same_writer

pub returns-in_err-tell-clause-failed : goal.returns-in_err-tell-clause-failed
returns-in_err-tell-clause-failed g c =
    let p = err_from_is_err_and c.from_residual-in_err-tell.result c.from_residual-in_err-tell.ensures.1 in
    rw (p.1, p.2) (
      c.in_ok-answer.ensures.failed ∙ c.loop-slot.invariant.reader_failed,
      c.in-Ok.ensures.stream.failed ∙ c.loop-slot.invariant.writer_failed,
    )

pub loop-slot-preserved : goal.loop-slot-preserved
loop-slot-preserved g c =
    let command = c.args.command.now in
    let r = c.in-Ok.ensures.requests in
    let page = c.loop-slot.self.page in
    let listing = asks_more command _ _ _ _ _ page c.loop-slot.self.text c.loop-slot.slot c.loop-slot.sent c.in-Ok.sent
    _ c.loop-slot.invariant.text r.3 c.loop-slot.invariant.listing in record {
      listing = rw (c.in_ok-tell.ensures.after, c.of-style.ensures)
          (hears_row command c.in_ok-answer.answer c.hear.new.given _ _ _ _ _ page c.loop-slot.slot c.in-Ok.sent _
          c.requires.list r.0 (omega (arith, r.1, c.min-rows.ensures)) listing c.in_ok-answer.ensures.hears);
      text = c.loop-slot.invariant.text;
      room = stays_within (c.loop-slot.slot + 1) (Row c.loop-slot.slot) c.in_ok-answer.answer c.hear.new.given
          (length page) (length c.tell.new.self) c.in_ok-answer.ensures.hears.1
          (no_receive c.loop-slot.slot (c.loop-slot.slot + 1)) c.loop-slot.invariant.room c.in_ok-tell.ensures.len;
      ahead = omega (arith, r.0);
      bound = r.1;
      few = omega (arith, r.2);
      same_reader = c.hear.ensures.same ∙ c.loop-slot.invariant.same_reader;
      same_writer = c.in-Ok.ensures.stream.same ∙ c.loop-slot.invariant.same_writer;
      reader_failed = c.in_ok-answer.ensures.failed ∙ c.loop-slot.invariant.reader_failed;
      writer_failed = c.in-Ok.ensures.stream.failed ∙ c.loop-slot.invariant.writer_failed;
    }

pub returns-clause-converses : goal.returns-clause-converses
returns-clause-converses g c =
    lists_all c.args.command.now _ _ _ _ c.loop-slot.self.page c.loop-slot.slot c.loop-slot.sent _ _ c.requires.list
    (omega (arith, c.loop-slot.invariant.bound)) (omega (arith, c.min-rows.ensures)) c.loop-slot.invariant.listing

pub returns-clause-same_reader : goal.returns-clause-same_reader
returns-clause-same_reader g c = c.loop-slot.invariant.same_reader

pub returns-clause-same_writer : goal.returns-clause-same_writer
returns-clause-same_writer g c = c.loop-slot.invariant.same_writer

pub returns-clause-failed : goal.returns-clause-failed
returns-clause-failed g c = (c.loop-slot.invariant.reader_failed, c.loop-slot.invariant.writer_failed)
